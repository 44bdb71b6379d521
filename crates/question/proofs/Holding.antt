-- What the arenas hold stays as they grow, and what a new node stands for.
use Rattle.std.proofs.Common.{◌≡◌, ℕ, ◌+◌, ◌≤◌, Bool, true, false, cond, List, [], ◌∷◌, ◌++◌, length, sym, refl, ap, ◌∙◌, subst, arith, length-append}
use lib.ListN.{length-map}
use Rattle.std.proofs.lemmas.List.{get_or_append_left, get_or_push, length_push}
use Rattle.room.specs.Items.{items}
use Rattle.tokens.specs.Words.{Word, iri, literal, name, open_brace, close_brace, open_paren, close_paren, dot, bar, slash, caret, star, bang, optional, union, wrong, end}
use Rattle.grammar.specs.Grammar.{Name, Ends, Paths, Patterns, iri_term, literal_term}
use Rattle.grammar.specs.Limits.{Seen, after, gather, known}
use Rattle.grammar.specs.Reading.{words}
use Rattle.question.specs.declared.reader.Reader.{Reader}
use Rattle.question.specs.declared.node.End.{End}
use Rattle.question.specs.Arena.{term_of, grow, path_of, pattern_of, Env}
use Rattle.question.specs.Views.{View, text_of, seen_of, Passes, Grows, Kept, Stands, Fits, Sees, HeldPath, HeldPattern, HeldEnd}
use Rattle.question.proofs.Going.{grows_stay, grows_then}

-- ---- lists that grow

pub stands_more : {X : Type 0} {xs ys : List X} {i : ℕ} {x : X} → Grows xs ys → Stands xs i x → Stands ys i x
stands_more {X} {xs} {ys} {i} {x} g s = subst (λ l. Stands l i x) (sym g.1) (record {
  within = omega (arith, length-append xs g.0, s.within);
  is = λ d. get_or_append_left xs g.0 d i s.within ∙ s.is d;
})

pub stands_last : {X : Type 0} (xs : List X) (x : X) (i : ℕ) → i ≡ length xs → Stands (xs ++ x ∷ []) i x
stands_last xs x i e = record { within = omega (arith, length_push xs x); is = λ d. get_or_push xs x d i (sym e) }

pub fits_less : {X : Type 0} {xs ys : List X} {f : ℕ → X} → Grows xs ys → Fits ys f → Fits xs f
fits_less g h i x s = h i x (stands_more g s)

grow-++ : {X N : Type 0} (h : List X → N → X) (xs : List X) (ns ms : List N) → grow h xs (ns ++ ms) ≡ grow h (grow h xs ns) ms
grow-++ h xs [] ms = refl
grow-++ h xs (n ∷ ns) ms = grow-++ h (xs ++ h xs n ∷ []) ns ms

grow_grows : {X N : Type 0} (h : List X → N → X) (xs : List X) (ns : List N) → Grows xs (grow h xs ns)
grow_grows h xs [] = grows_stay xs
grow_grows h xs (n ∷ ns) = grows_then xs (xs ++ h xs n ∷ []) (grow h (xs ++ h xs n ∷ []) ns) (h xs n ∷ [], refl) (grow_grows h (xs ++ h xs n ∷ []) ns)

pub grown : {X N : Type 0} (h : List X → N → X) (ns ms : List N) → Grows ns ms → Grows (grow h [] ns) (grow h [] ms)
grown h ns ms g =
    let e : grow h [] ms ≡ grow h (grow h [] ns) g.0 = ap (grow h []) g.1 ∙ grow-++ h [] ns g.0 in
    let m = grow_grows h (grow h [] ns) g.0 in
    (m.0, e ∙ m.1)

pub grow_length : {X N : Type 0} (h : List X → N → X) (xs : List X) (ns : List N) → length (grow h xs ns) ≡ length xs + length ns
grow_length h xs [] = omega arith
grow_length h xs (n ∷ ns) = grow_length h (xs ++ h xs n ∷ []) ns ∙ omega (arith, length_push xs (h xs n))

-- the meaning of a node that was just added
pub stands_new : {X N : Type 0} (h : List X → N → X) (ns ms : List N) (n : N) (i : ℕ) → ms ≡ ns ++ n ∷ [] → i ≡ length ns → Stands (grow h [] ms) i (h (grow h [] ns) n)
stands_new h ns ms n i e at =
    subst (λ l. Stands l i (h (grow h [] ns) n)) (sym (ap (grow h []) e ∙ grow-++ h [] ns (n ∷ [])))
    (stands_last (grow h [] ns) (h (grow h [] ns) n) i (omega (arith, grow_length h [] ns)))

-- ---- what is gathered only grows

after_terms : (s : Seen) (x : Word) → Grows s.terms (after s x).terms
after_terms s (iri x) = (iri_term x ∷ [], refl)
after_terms s (literal x) = (literal_term x ∷ [], refl)
after_terms s (name x) = grows_stay s.terms
after_terms s open_brace = grows_stay s.terms
after_terms s close_brace = grows_stay s.terms
after_terms s open_paren = grows_stay s.terms
after_terms s close_paren = grows_stay s.terms
after_terms s dot = grows_stay s.terms
after_terms s bar = grows_stay s.terms
after_terms s slash = grows_stay s.terms
after_terms s caret = grows_stay s.terms
after_terms s star = grows_stay s.terms
after_terms s bang = grows_stay s.terms
after_terms s optional = grows_stay s.terms
after_terms s union = grows_stay s.terms
after_terms s wrong = grows_stay s.terms
after_terms s end = grows_stay s.terms

noted_grows : (x : Name) (ys : List Name) (b : Bool) → Grows ys (cond b ys (ys ++ x ∷ []))
noted_grows x ys true = grows_stay ys
noted_grows x ys false = (x ∷ [], refl)

after_names : (s : Seen) (x : Word) → Grows s.names (after s x).names
after_names s (iri x) = grows_stay s.names
after_names s (literal x) = grows_stay s.names
after_names s (name x) = noted_grows x s.names (known x s.names)
after_names s open_brace = grows_stay s.names
after_names s close_brace = grows_stay s.names
after_names s open_paren = grows_stay s.names
after_names s close_paren = grows_stay s.names
after_names s dot = grows_stay s.names
after_names s bar = grows_stay s.names
after_names s slash = grows_stay s.names
after_names s caret = grows_stay s.names
after_names s star = grows_stay s.names
after_names s bang = grows_stay s.names
after_names s optional = grows_stay s.names
after_names s union = grows_stay s.names
after_names s wrong = grows_stay s.names
after_names s end = grows_stay s.names

gather_terms : (s : Seen) (v : List Word) → Grows s.terms (gather s v).terms
gather_terms s [] = grows_stay s.terms
gather_terms s (x ∷ v) = grows_then s.terms (after s x).terms (gather (after s x) v).terms (after_terms s x) (gather_terms (after s x) v)

gather_names : (s : Seen) (v : List Word) → Grows s.names (gather s v).names
gather_names s [] = grows_stay s.names
gather_names s (x ∷ v) = grows_then s.names (after s x).names (gather (after s x) v).names (after_names s x) (gather_names (after s x) v)

pub passed_terms : {p q : View} → Passes p q → Grows p.seen.terms q.seen.terms
passed_terms {p} {q} g = subst (λ s. Grows p.seen.terms s.terms) g.gathers (gather_terms p.seen (words g.passed))

pub passed_names : {p q : View} → Passes p q → Grows p.seen.names q.seen.names
passed_names {p} {q} g = subst (λ s. Grows p.seen.names s.names) g.gathers (gather_names p.seen (words g.passed))

-- ---- what is held stays held

pub record Onward (p q : View) : Type 0 where
  pub terms : Grows p.seen.terms q.seen.terms
  pub names : Grows p.seen.names q.seen.names
  pub paths : Grows p.paths q.paths
  pub patterns : Grows p.patterns q.patterns

pub onward : {p q : View} → Passes p q → Kept p q → q.full ≡ false → Onward p q
onward g k f = record { terms = passed_terms g; names = passed_names g; paths = k.paths f; patterns = k.patterns f }

pub onward_then : {p q r : View} → Onward p q → Onward q r → Onward p r
onward_then {p} {q} {r} g h = record {
  terms = grows_then p.seen.terms q.seen.terms r.seen.terms g.terms h.terms;
  names = grows_then p.seen.names q.seen.names r.seen.names g.names h.names;
  paths = grows_then p.paths q.paths r.paths g.paths h.paths;
  patterns = grows_then p.patterns q.patterns r.patterns g.patterns h.patterns;
}

pub sees_before : {p q : View} {e : Env} → Onward p q → Sees q e → Sees p e
sees_before {p} {q} {e} o s = record {
  terms = fits_less o.terms s.terms;
  names = fits_less o.names s.names;
  paths = fits_less (grown (path_of e.term) p.paths q.paths o.paths) s.paths;
}

pub path_stays : {p q : View} {i : ℕ} {x : Paths} → Onward p q → HeldPath p i x → HeldPath q i x
path_stays {p} {q} o h = record { stands = λ e s. stands_more (grown (path_of e.term) p.paths q.paths o.paths) (h.stands e (sees_before o s)) }

pub pattern_stays : {p q : View} {i : ℕ} {x : Patterns} → Onward p q → HeldPattern p i x → HeldPattern q i x
pattern_stays {p} {q} o h = record { stands = λ e s. stands_more (grown (pattern_of e) p.patterns q.patterns o.patterns) (h.stands e (sees_before o s)) }

pub end_stays : {p q : View} {x : End ℕ} {v : Ends} → Onward p q → HeldEnd p x v → HeldEnd q x v
end_stays o h = record { stands = λ e s. h.stands e (sees_before o s) }

-- ---- lengths

pub terms_length : (r : Reader) → length (items r.built.terms) ≡ length (seen_of r).terms
terms_length r = sym (length-map (items r.built.terms) (term_of (text_of r)))

pub passed_length : {p q : View} → Passes p q → length p.seen.terms ≤ length q.seen.terms
passed_length {p} {q} g = let m = passed_terms g in omega (arith, ap length m.1 ∙ length-append p.seen.terms m.0)
