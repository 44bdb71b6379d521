-- The list of needs has exactly what is needed.
use Rattle.std.proofs.Common.{◌≡◌, ℕ, Bool, true, false, cond, ◌&&◌, ◌⊎◌, List, [], ◌∷◌, Some, None, Option, sym, refl, ap, ◌∙◌, subst, inl, inr}
use lib.Bits.{bit_or}
use Rattle.std.proofs.lemmas.Bool.{and_parts, and_from}
use Rattle.grammar.specs.Syntax.{Path, link, negated, inverse, star, sequence, alternative, Pattern, empty, line, and, union, opt}
use Rattle.grammar.specs.Bounded.{fixed}
use Rattle.grammar.specs.Masks.{member}
use Rattle.grammar.specs.Judged.{sure_mask}
use Rattle.semantics.specs.Terms.{Terms, Exact, In}
use Rattle.semantics.specs.Rows.{Row, merge, compatible}
use Rattle.semantics.specs.Graphs.{Graph, Closed, pair}
use Rattle.semantics.specs.Meaning.{possible}
use Rattle.semantics.proofs.Lists.{clash, by_test, in_left, in_right, in_either, in_gather, gather_in, has_in}
use Rattle.semantics.proofs.Links.{pair_ends}
use Rattle.semantics.proofs.Possible.{in_one}
use Rattle.walks.specs.Plans.{left_first, left_step_first, from_left, fixed_to, allows, Asking, path, part, Leads, to_inverse, to_left_choice, to_right_choice, to_left_step, from_left_step, to_right_step, from_right_step, star_onward as onwards, star_backward as backwards, to_path, to_left_side, from_left_side, to_right_side, from_right_side, to_left_union, to_right_union, to_outside, to_option, Reached, here, there, Reads, for_link, for_negated, Needed}
use Rattle.walks.specs.Needs.{onward, backward, path_needs, suited, part_needs, needs}
use Rattle.walks.specs.Promises.{NeedsAreListed}
use Rattle.walks.proofs.Growth.{one_in}

-- in one of two lists, by a test
in_then : {C : Type 0} (t : Bool) (L M : List C) (c : C) → t ≡ true → In c L → In c (cond t L M)
in_then true L M c e i = i
in_then false L M c e i = clash e refl

in_else : {C : Type 0} (t : Bool) (L M : List C) (c : C) → t ≡ false → In c M → In c (cond t L M)
in_else true L M c e i = clash refl e
in_else false L M c e i = i

in_test : {C : Type 0} (t : Bool) (L M : List C) (c : C) → In c (cond t L M) → ((t ≡ true) × In c L) ⊎ ((t ≡ false) × In c M)
in_test true L M c i = inl (refl, i)
in_test false L M c i = inr (refl, i)

module _ {A : Type 0} (T : Terms A) (G : Graph A) where
  pub in_suited : (r : Row A) (L : List (Row A)) (a : Row A) → In a (suited T G r L) → In a L × (compatible T r a ≡ true)
  in_suited r [] a i = elim i [ ]
  in_suited r (b ∷ L) a i =
      elim (in_test (compatible T r b) (b ∷ suited T G r L) (suited T G r L) a i) [
        | inl s ↦ (elim s.1 [
          | inl j ↦ (inl j, ap (compatible T r) j ∙ s.0)
          | inr j ↦ (let q = in_suited r L a j in (inr q.0, q.1))
        ])
        | inr s ↦ (let q = in_suited r L a s.1 in (inr q.0, q.1))
      ]

module _ {A : Type 0} {T : Terms A} (x : Exact T) (G : Graph A) (c : Closed T G) where
  suited_in : (r : Row A) (L : List (Row A)) (a : Row A) → In a L → compatible T r a ≡ true → In a (suited T G r L)
  suited_in r [] a i e = elim i [ ]
  suited_in r (b ∷ L) a (inl i) e = in_then (compatible T r b) (b ∷ suited T G r L) (suited T G r L) a (ap (compatible T r) (sym i) ∙ e) (inl i)
  suited_in r (b ∷ L) a (inr i) e = by_test (compatible T r b)
      (λ t. in_then (compatible T r b) (b ∷ suited T G r L) (suited T G r L) a t (inr (suited_in r L a i e)))
      (λ t. in_else (compatible T r b) (b ∷ suited T G r L) (suited T G r L) a t (suited_in r L a i e))

  in_onward : (p : Path A) (o : Option A) (m : A) → In m (onward T G p o) → (a : A) × (allows T o a ≡ true) × (pair T G p a m ≡ true)
  in_onward p o m i =
      let s = in_gather _ G.universe m i in
      let t = in_gather _ G.universe m s.2 in
      let e = in_one (allows T o s.0 && pair T G p s.0 t.0) t.0 m t.2 in
      let d = and_parts (allows T o s.0) (pair T G p s.0 t.0) e.0 in
      (s.0, d.0, subst (λ z. pair T G p s.0 z ≡ true) (sym e.1) d.1)

  in_backward : (p : Path A) (o : Option A) (m : A) → In m (backward T G p o) → (b : A) × (allows T o b ≡ true) × (pair T G p m b ≡ true)
  in_backward p o m i =
      let s = in_gather _ G.universe m i in
      let t = in_gather _ G.universe m s.2 in
      let e = in_one (allows T o s.0 && pair T G p t.0 s.0) t.0 m t.2 in
      let d = and_parts (allows T o s.0) (pair T G p t.0 s.0) e.0 in
      (s.0, d.0, subst (λ z. pair T G p z s.0 ≡ true) (sym e.1) d.1)

  onward_in : (p : Path A) (o : Option A) (a m : A) → allows T o a ≡ true → pair T G p a m ≡ true → In m (onward T G p o)
  onward_in p o a m f e =
      let n = pair_ends x G c p a m e in
      gather_in _ G.universe a m (has_in x a _ n.0) (gather_in _ G.universe m m (has_in x m _ n.1)
      (one_in (allows T o a && pair T G p a m) m m (and_from _ _ f e) refl))

  backward_in : (p : Path A) (o : Option A) (m b : A) → allows T o b ≡ true → pair T G p m b ≡ true → In m (backward T G p o)
  backward_in p o m b f e =
      let n = pair_ends x G c p m b e in
      gather_in _ G.universe b m (has_in x b _ n.1) (gather_in _ G.universe m m (has_in x m _ n.0)
      (one_in (allows T o b && pair T G p m b) m m (and_from _ _ f e) refl))

  -- ---- what is needed is listed: a step takes nothing away

  leads_needs : {q r : Asking A} → Leads T G q r → (i : A) → In i (needs T G r) → In i (needs T G q)
  leads_needs to_inverse i h = h
  leads_needs to_left_choice i h = in_left i _ _ h
  leads_needs (to_right_choice {l = l} {r = r} {p = p} {x = o} {y = u}) i h = in_right i (path_needs T G l r p o u) _ h
  leads_needs (to_left_step {l = l} {r = r} {p = p} {q = q} e) i h = in_then (left_step_first l r p q) _ _ i e (in_left i _ _ h)
  leads_needs (from_left_step {l = l} {r = r} {p = p} {q = q} {x = o} e a m f g) i h = in_then (left_step_first l r p q) _ _ i e
      (in_right i (path_needs T G l false p o None) _ (gather_in _ (onward T G p o) m i (onward_in p o a m f g) h))
  leads_needs (to_right_step {l = l} {r = r} {p = p} {q = q} e) i h = in_else (left_step_first l r p q) _ _ i e (in_left i _ _ h)
  leads_needs (from_right_step {l = l} {r = r} {p = p} {q = q} {y = u} e m b f g) i h = in_else (left_step_first l r p q) _ _ i e
      (in_right i (path_needs T G false r q None u) _ (gather_in _ (backward T G q u) m i (backward_in q u m b f g) h))
  leads_needs (onwards {l = l} {p = p} {x = o} e a m f g) i h = in_then (from_left l p) _ _ i e
      (gather_in _ (onward T G (star p) o) m i (onward_in (star p) o a m f g) h)
  leads_needs (backwards {l = l} {p = p} {y = u} e m b f g) i h = in_else (from_left l p) _ _ i e
      (gather_in _ (backward T G (star p) u) m i (backward_in (star p) u m b f g) h)
  leads_needs to_path i h = h
  leads_needs (to_left_side {m = n} {p = p} {q = q} e) i h = in_then (left_first n p q) _ _ i e (in_left i _ _ h)
  leads_needs (from_left_side {m = n} {p = p} {q = q} {r = r} e a j g) i h = in_then (left_first n p q) _ _ i e
      (in_right i (part_needs T G n p r) _ (gather_in _ (suited T G r (possible T G p)) a i (suited_in r _ a j g) h))
  leads_needs (to_right_side {m = n} {p = p} {q = q} e) i h = in_else (left_first n p q) _ _ i e (in_left i _ _ h)
  leads_needs (from_right_side {m = n} {p = p} {q = q} {r = r} e a j g) i h = in_else (left_first n p q) _ _ i e
      (in_right i (part_needs T G n q r) _ (gather_in _ (suited T G r (possible T G q)) a i (suited_in r _ a j g) h))
  leads_needs to_left_union i h = in_left i _ _ h
  leads_needs (to_right_union {m = n} {p = p} {r = r}) i h = in_right i (part_needs T G n p r) _ h
  leads_needs to_outside i h = in_left i _ _ h
  leads_needs (to_option {m = n} {p = p} {r = r} a j g) i h =
      in_right i (part_needs T G n p r) _ (gather_in _ (suited T G r (possible T G p)) a i (suited_in r _ a j g) h)

  reached_needs : {q r : Asking A} → Reached T G q r → (i : A) → In i (needs T G r) → In i (needs T G q)
  reached_needs here i h = h
  reached_needs (there s r) i h = leads_needs s i (reached_needs r i h)

  reads_needs : {q : Asking A} {i : A} → Reads q i → T.is_iri i ≡ true → In i (needs T G q)
  reads_needs (for_link {i = i}) e = one_in (T.is_iri i) i i e refl
  reads_needs (for_negated {i = i}) e = one_in (T.is_iri i) i i e refl

  -- ---- what is listed is needed

  abbrev N : Asking A → A → Type 0
  N q i = Needed T G q i

  further : {q r : Asking A} {i : A} → Leads T G q r → N r i → N q i
  further s n = record { asking = n.asking; reached = there s n.reached; reads = n.reads; iri = n.iri }

  path_needed : (l r : Bool) (p : Path A) (o u : Option A) (i : A) → In i (path_needs T G l r p o u) → N (path l r p o u) i
  path_needed l r (link v) None u i h = elim h [ ]
  path_needed l r (link v) (Some j) u i h =
      let e = in_one (T.is_iri j) j i h in
      subst (N (path l r (link v) (Some j) u)) (sym e.1) (record { asking = path l r (link v) (Some j) u; reached = here; reads = for_link; iri = e.0 })
  path_needed l r (negated vs) None u i h = elim h [ ]
  path_needed l r (negated vs) (Some j) u i h =
      let e = in_one (T.is_iri j) j i h in
      subst (N (path l r (negated vs) (Some j) u)) (sym e.1) (record { asking = path l r (negated vs) (Some j) u; reached = here; reads = for_negated; iri = e.0 })
  path_needed l r (inverse p) o u i h = further to_inverse (path_needed r l p u o i h)
  path_needed l r (alternative p q) o u i h =
      elim (in_either i (path_needs T G l r p o u) (path_needs T G l r q o u) h) [
        | inl j ↦ further to_left_choice (path_needed l r p o u i j)
        | inr j ↦ further to_right_choice (path_needed l r q o u i j)
      ]
  path_needed l r (sequence p q) o u i h =
      elim (in_test (left_step_first l r p q) _ _ i h) [
        | inl e ↦ (elim (in_either i (path_needs T G l false p o None) _ e.1) [
          | inl j ↦ further (to_left_step e.0) (path_needed l false p o None i j)
          | inr j ↦ (let g = in_gather _ (onward T G p o) i j in let w = in_onward p o g.0 g.1 in
              further (from_left_step e.0 w.0 g.0 w.1 w.2) (path_needed true r q (Some g.0) u i g.2))
        ])
        | inr e ↦ (elim (in_either i (path_needs T G false r q None u) _ e.1) [
          | inl j ↦ further (to_right_step e.0) (path_needed false r q None u i j)
          | inr j ↦ (let g = in_gather _ (backward T G q u) i j in let w = in_backward q u g.0 g.1 in
              further (from_right_step e.0 g.0 w.0 w.1 w.2) (path_needed l true p o (Some g.0) i g.2))
        ])
      ]
  path_needed l r (star p) o u i h =
      elim (in_test (from_left l p) _ _ i h) [
        | inl e ↦ (let g = in_gather _ (onward T G (star p) o) i e.1 in let w = in_onward (star p) o g.0 g.1 in
            further (onwards e.0 w.0 g.0 w.1 w.2) (path_needed true false p (Some g.0) None i g.2))
        | inr e ↦ (let g = in_gather _ (backward T G (star p) u) i e.1 in let w = in_backward (star p) u g.0 g.1 in
            further (backwards e.0 g.0 w.0 w.1 w.2) (path_needed false true p None (Some g.0) i g.2))
      ]

  part_needed : (m : ℕ) (p : Pattern A ℕ) (r : Row A) (i : A) → In i (part_needs T G m p r) → N (part m p r) i
  part_needed m empty r i h = elim h [ ]
  part_needed m (line e p f) r i h = further to_path (path_needed (fixed (member m) e) (fixed (member m) f) p (fixed_to r e) (fixed_to r f) i h)
  part_needed m (and p q) r i h =
      elim (in_test (left_first m p q) _ _ i h) [
        | inl e ↦ (elim (in_either i (part_needs T G m p r) _ e.1) [
          | inl j ↦ further (to_left_side e.0) (part_needed m p r i j)
          | inr j ↦ (let g = in_gather _ (suited T G r (possible T G p)) i j in let w = in_suited T G r (possible T G p) g.0 g.1 in
              further (from_left_side e.0 g.0 w.0 w.1) (part_needed (bit_or m (sure_mask p)) q (merge r g.0) i g.2))
        ])
        | inr e ↦ (elim (in_either i (part_needs T G m q r) _ e.1) [
          | inl j ↦ further (to_right_side e.0) (part_needed m q r i j)
          | inr j ↦ (let g = in_gather _ (suited T G r (possible T G q)) i j in let w = in_suited T G r (possible T G q) g.0 g.1 in
              further (from_right_side e.0 g.0 w.0 w.1) (part_needed (bit_or m (sure_mask q)) p (merge r g.0) i g.2))
        ])
      ]
  part_needed m (union p q) r i h =
      elim (in_either i (part_needs T G m p r) (part_needs T G m q r) h) [
        | inl j ↦ further to_left_union (part_needed m p r i j)
        | inr j ↦ further to_right_union (part_needed m q r i j)
      ]
  part_needed m (opt p q) r i h =
      elim (in_either i (part_needs T G m p r) _ h) [
        | inl j ↦ further to_outside (part_needed m p r i j)
        | inr j ↦ (let g = in_gather _ (suited T G r (possible T G p)) i j in let w = in_suited T G r (possible T G p) g.0 g.1 in
            further (to_option g.0 w.0 w.1) (part_needed (sure_mask p) q g.0 i g.2))
      ]

  asking_needed : (q : Asking A) (i : A) → In i (needs T G q) → N q i
  asking_needed (path l r p o u) i h = path_needed l r p o u i h
  asking_needed (part m p r) i h = part_needed m p r i h

pub needs_are_listed : {A : Type 0} → NeedsAreListed A
needs_are_listed T x G c q i =
    (λ n. reached_needs x G c n.reached i (reads_needs x G c n.reads n.iri), λ h. asking_needed x G c q i h)
