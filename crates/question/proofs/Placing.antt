-- A node more in an arena: nothing was read, and the new node stands for what its parts stand for.
use Rattle.std.proofs.Common.{◌≡◌, ℕ, ◌+◌, false, List, [], ◌∷◌, ◌++◌, map, length, get_or, sym, refl, ap, ◌∙◌, subst, append_assoc, append-nil, arith, length-append}
use Rattle.std.proofs.lemmas.List.{get_or-append-add}
use Rattle.terms.specs.Terms.{Term}
use Rattle.grammar.specs.Syntax.{link, negated, inverse, star, sequence, alternative, line, and, union, opt, empty}
use Rattle.grammar.specs.Grammar.{Ends, Paths, Patterns}
use Rattle.grammar.specs.Reading.{words}
use Rattle.grammar.specs.Machine.{Symbol, Reaches}
use Rattle.grammar.proofs.Moves.{reach_stay}
use Rattle.question.specs.declared.node.PathNode.{PathNode}
use Rattle.question.specs.declared.node.PathNode.TheVariants as path
use Rattle.question.specs.declared.node.PatternNode.{PatternNode}
use Rattle.question.specs.declared.node.PatternNode.TheVariants as pattern
use Rattle.question.specs.declared.node.End.{End}
use Rattle.question.specs.Arena.{up_from, path_at, pattern_at, path_of, pattern_of, Env, paths_of, patterns_of}
use Rattle.question.specs.Views.{View, Grows, Kept, Went, Stands, Fits, Sees, HeldPath, HeldPattern, HeldEnd}
use Rattle.question.specs.Outcomes.{Placed, PlacedPath, PlacedPattern}
use Rattle.question.proofs.Holding.{stands_new, Onward, onward, sees_before}

same_grows : {X : Type 0} {xs ys : List X} → ys ≡ xs → Grows xs ys
same_grows {X} {xs} e = ([], e ∙ sym (append-nil xs))

went_placed : {p q : View} {n : ℕ} (σ : List Symbol) → Placed p q n → Kept p q → Went σ σ p q
went_placed {p} {q} σ h k = record {
  reach = λ ρ. subst (λ v. Reaches (σ ++ ρ) (words p.spots) (σ ++ ρ) (words v)) (sym h.spots) reach_stay;
  passes = record { passed = []; split = sym h.spots; clear = tt; gathers = sym h.seen };
  kept = k;
}

module _ {p q : View} {x : PathNode} {n i : ℕ} (h : PlacedPath p q x n i) where
  kept_path : Kept p q
  kept_path = record {
    free = h.placed.free;
    paths = λ f. (x ∷ [], h.paths f);
    patterns = λ f. same_grows h.patterns;
    forward = omega (arith, h.placed.start);
  }

  pub went_path : (σ : List Symbol) → Went σ σ p q
  went_path σ = went_placed σ h.placed kept_path

  pub onward_path : q.full ≡ false → Onward p q
  onward_path f = onward (went_path []).passes kept_path f

  -- what the new node stands for
  new_path : (f : q.full ≡ false) (e : Env) → Stands (paths_of e.term q.paths) i (path_of e.term (paths_of e.term p.paths) x)
  new_path f e = stands_new (path_of e.term) p.paths q.paths x i (h.paths f) (h.index f)

  pub path_placed : q.full ≡ false → (v : Paths) → ((e : Env) → Sees p e → path_of e.term (paths_of e.term p.paths) x ≡ v) → HeldPath q i v
  path_placed f v is = record { stands = λ e s. subst (Stands (paths_of e.term q.paths) i) (is e (sees_before (onward_path f) s)) (new_path f e) }

module _ {p q : View} {x : PatternNode} {n i : ℕ} (h : PlacedPattern p q x n i) where
  kept_pattern : Kept p q
  kept_pattern = record {
    free = h.placed.free;
    paths = λ f. same_grows h.paths;
    patterns = λ f. (x ∷ [], h.patterns f);
    forward = omega (arith, h.placed.start);
  }

  pub went_pattern : (σ : List Symbol) → Went σ σ p q
  went_pattern σ = went_placed σ h.placed kept_pattern

  pub onward_pattern : q.full ≡ false → Onward p q
  onward_pattern f = onward (went_pattern []).passes kept_pattern f

  new_pattern : (f : q.full ≡ false) (e : Env) → Stands (patterns_of e q.patterns) i (pattern_of e (patterns_of e p.patterns) x)
  new_pattern f e = stands_new (pattern_of e) p.patterns q.patterns x i (h.patterns f) (h.index f)

  pub pattern_placed : q.full ≡ false → (v : Patterns) → ((e : Env) → Sees p e → pattern_of e (patterns_of e p.patterns) x ≡ v) → HeldPattern q i v
  pattern_placed f v is = record { stands = λ e s. subst (Stands (patterns_of e q.patterns) i) (is e (sees_before (onward_pattern f) s)) (new_pattern f e) }

-- ---- each sort of node

path_at_is : {ps : List Paths} {i : ℕ} {v : Paths} → Stands ps i v → path_at ps i ≡ v
path_at_is s = s.is (negated [])

pattern_at_is : {ps : List Patterns} {i : ℕ} {v : Patterns} → Stands ps i v → pattern_at ps i ≡ v
pattern_at_is s = s.is empty

module _ {p q : View} {n i : ℕ} where
  pub link_placed : {t : ℕ} {x : Term} → PlacedPath p q (path.Link t) n i → Stands p.seen.terms t x → q.full ≡ false → HeldPath q i (link x)
  link_placed {t} {x} h s f = path_placed h f (link x) (λ e v. ap link (v.terms t x s))

  pub inverse_placed : {l : ℕ} {x : Paths} → PlacedPath p q (path.Inverse l) n i → HeldPath p l x → q.full ≡ false → HeldPath q i (inverse x)
  inverse_placed {l} {x} h s f = path_placed h f (inverse x) (λ e v. ap inverse (path_at_is (s.stands e v)))

  pub star_placed : {l : ℕ} {x : Paths} → PlacedPath p q (path.Star l) n i → HeldPath p l x → q.full ≡ false → HeldPath q i (star x)
  star_placed {l} {x} h s f = path_placed h f (star x) (λ e v. ap star (path_at_is (s.stands e v)))

  pub sequence_placed : {l r : ℕ} {x y : Paths} → PlacedPath p q (path.Sequence l r) n i → HeldPath p l x → HeldPath p r y → q.full ≡ false → HeldPath q i (sequence x y)
  sequence_placed {l} {r} {x} {y} h s t f = path_placed h f (sequence x y) (λ e v. let a = path_at_is (s.stands e v) in let b = path_at_is (t.stands e v) in λ j. sequence (a j) (b j))

  pub alternative_placed : {l r : ℕ} {x y : Paths} → PlacedPath p q (path.Alternative l r) n i → HeldPath p l x → HeldPath p r y → q.full ≡ false → HeldPath q i (alternative x y)
  alternative_placed {l} {r} {x} {y} h s t f = path_placed h f (alternative x y) (λ e v. let a = path_at_is (s.stands e v) in let b = path_at_is (t.stands e v) in λ j. alternative (a j) (b j))

  pub empty_placed : PlacedPattern p q pattern.Empty n i → q.full ≡ false → HeldPattern q i empty
  empty_placed h f = pattern_placed h f empty (λ e v. refl)

  pub line_placed : {a b : End ℕ} {l : ℕ} {x y : Ends} {z : Paths} → PlacedPattern p q (pattern.Line (record { subject = a; path = l; object = b })) n i → HeldEnd p a x → HeldPath p l z → HeldEnd p b y → q.full ≡ false → HeldPattern q i (line x z y)
  line_placed {a} {b} {l} {x} {y} {z} h s t u f =
      pattern_placed h f (line x z y) (λ e v. let k = s.stands e v in let m = v.paths l z (t.stands e v) in let o = u.stands e v in λ j. line (k j) (m j) (o j))

  pub and_placed : {l r : ℕ} {x y : Patterns} → PlacedPattern p q (pattern.And l r) n i → HeldPattern p l x → HeldPattern p r y → q.full ≡ false → HeldPattern q i (and x y)
  and_placed {l} {r} {x} {y} h s t f = pattern_placed h f (and x y) (λ e v. let a = pattern_at_is (s.stands e v) in let b = pattern_at_is (t.stands e v) in λ j. and (a j) (b j))

  pub union_placed : {l r : ℕ} {x y : Patterns} → PlacedPattern p q (pattern.Union l r) n i → HeldPattern p l x → HeldPattern p r y → q.full ≡ false → HeldPattern q i (union x y)
  union_placed {l} {r} {x} {y} h s t f = pattern_placed h f (union x y) (λ e v. let a = pattern_at_is (s.stands e v) in let b = pattern_at_is (t.stands e v) in λ j. union (a j) (b j))

  pub opt_placed : {l r : ℕ} {x y : Patterns} → PlacedPattern p q (pattern.Opt l r) n i → HeldPattern p l x → HeldPattern p r y → q.full ≡ false → HeldPattern q i (opt x y)
  opt_placed {l} {r} {x} {y} h s t f = pattern_placed h f (opt x y) (λ e v. let a = pattern_at_is (s.stands e v) in let b = pattern_at_is (t.stands e v) in λ j. opt (a j) (b j))

-- ---- a negated set: its members are the terms that came last

stands_among : {X : Type 0} (xs : List X) (y : X) (ys : List X) → Stands (xs ++ y ∷ ys) (length xs) y
stands_among xs y ys = record {
  within = omega (arith, length-append xs (y ∷ ys));
  is = λ d. ap (λ n. get_or (xs ++ y ∷ ys) n d) (omega arith) ∙ get_or-append-add xs (y ∷ ys) 0 d;
}

pub members_are : (f : ℕ → Term) (xs ms : List Term) → Fits (xs ++ ms) f → map f (up_from (length xs) (length ms)) ≡ ms
members_are f xs [] h = refl
members_are f xs (m ∷ ms) h =
    let first = h (length xs) m (stands_among xs m ms) in
    let more = members_are f (xs ++ m ∷ []) ms (subst (λ l. Fits l f) (sym (append_assoc xs (m ∷ []) ms)) h) in
    let at : length (xs ++ m ∷ []) ≡ length xs + 1 = length-append xs (m ∷ []) in
    let rest : map f (up_from (length xs + 1) (length ms)) ≡ ms = ap (λ n. map f (up_from n (length ms))) (sym at) ∙ more in
    λ i. first i ∷ rest i

pub negated_placed : {p q : View} {n i : ℕ} (xs ms : List Term) → p.seen.terms ≡ xs ++ ms → PlacedPath p q (path.Negated (length xs) (length ms)) n i → q.full ≡ false → HeldPath q i (negated ms)
negated_placed {p} xs ms e h f = path_placed h f (negated ms) (λ v s. ap negated (members_are v.term xs ms (subst (λ l. Fits l v.term) e s.terms)))
