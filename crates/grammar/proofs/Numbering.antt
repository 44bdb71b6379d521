-- Names and numbers say the same.
use Rattle.std.proofs.Common.{◌≡◌, ℕ, zero, suc, ◌<◌, ◌≤◌, Bool, true, false, cond, not, ◌&&◌, ◌||◌, ltb, List, [], ◌∷◌, ◌++◌, length, get_or, Some, None, Option, sym, refl, ap, ◌∙◌, ap₂, arith, ltb-true}
use Rattle.std.proofs.lemmas.List.{length_push}
use Rattle.std.proofs.lemmas.Slice.Eq.{bytes_eq-Decides}
use Rattle.tokens.specs.Words.{Word, iri, literal, name, open_brace, close_brace, open_paren, close_paren, dot, bar, slash, caret, star, bang, optional, union, wrong, end}
use Rattle.tokens.specs.Lexed.{same_bytes}
use Rattle.grammar.specs.declared.refusal.Reason.{Reason}
use Rattle.grammar.specs.declared.refusal.Reason.TheVariants.{TooManyVariables}
use Rattle.grammar.specs.Grammar.{Name}
use Rattle.grammar.specs.Limits.{Seen, known, noted, at_most, after, gather, limit, Clear}
use Rattle.grammar.specs.Numbered.{place, distinct}

clash : false ≡ true → ⊥
clash e = let z : ◌≡◌ {A = ℕ} 0 1 = cc in omega arith

same_is : (x y : Name) → same_bytes x y ≡ true → x ≡ y
same_is x y e = (bytes_eq-Decides x y).0 e

same_self : (x : Name) → same_bytes x x ≡ true
same_self x = (bytes_eq-Decides x x).1 refl

and_true : (a b : Bool) → a && b ≡ true → (a ≡ true) × (b ≡ true)
and_true true b e = (refl, e)
and_true false b e = absurd (clash e)

not_true : (a : Bool) → not a ≡ true → a ≡ false
not_true true e = absurd (clash e)
not_true false e = refl

-- ---- a name's place

pub known_at : (ns : List Name) (i : ℕ) → i < length ns → known (get_or ns i []) ns ≡ true
known_at [] i lt = absurd (omega arith)
known_at (y ∷ ys) zero lt = ap (λ b. b || known y ys) (same_self y)
known_at (y ∷ ys) (suc i) lt = go (same_bytes (get_or ys i []) y) (known_at ys i (omega arith))
  where
    go : (b : Bool) → known (get_or ys i []) ys ≡ true → b || known (get_or ys i []) ys ≡ true
    go true e = refl
    go false e = e

pub place_at : (ns : List Name) (i : ℕ) → distinct ns ≡ true → i < length ns → place ns (get_or ns i []) ≡ i
place_at [] i d lt = absurd (omega arith)
place_at (y ∷ ys) zero d lt = ap (λ b. cond b 0 (suc (place ys y))) (same_self y)
place_at (y ∷ ys) (suc i) d lt = go (same_bytes x y) refl (place_at ys i parts.1 (omega arith))
  where
    x : Name
    x = get_or ys i []

    parts : (not (known y ys) ≡ true) × (distinct ys ≡ true)
    parts = and_true (not (known y ys)) (distinct ys) d

    go : (b : Bool) → same_bytes x y ≡ b → place ys x ≡ i → cond b 0 (suc (place ys x)) ≡ suc i
    go true e next = absurd (clash (sym (not_true (known y ys) parts.0) ∙ ap (λ n. known n ys) (sym (same_is x y e)) ∙ known_at ys i (omega arith)))
    go false e next = ap suc next

pub name_at_lem : (ns : List Name) (x : Name) → known x ns ≡ true → get_or ns (place ns x) [] ≡ x
name_at_lem [] x k = absurd (clash k)
name_at_lem (y ∷ ys) x k = go (same_bytes x y) refl k (λ h. name_at_lem ys x h)
  where
    go : (b : Bool) → same_bytes x y ≡ b → b || known x ys ≡ true → (known x ys ≡ true → get_or ys (place ys x) [] ≡ x) → get_or (y ∷ ys) (cond b 0 (suc (place ys x))) [] ≡ x
    go true e h next = sym (same_is x y e)
    go false e h next = next h

-- ---- names as they are gathered

known_more : (x y : Name) (ns : List Name) → known x ns ≡ true → known x (ns ++ y ∷ []) ≡ true
known_more x y [] k = absurd (clash k)
known_more x y (n ∷ ns) k = go (same_bytes x n) k (λ h. known_more x y ns h)
  where
    go : (b : Bool) → b || known x ns ≡ true → (known x ns ≡ true → known x (ns ++ y ∷ []) ≡ true) → b || known x (ns ++ y ∷ []) ≡ true
    go true h next = refl
    go false h next = next h

known_last : (x : Name) (ns : List Name) → known x (ns ++ x ∷ []) ≡ true
known_last x [] = ap (λ b. b || false) (same_self x)
known_last x (n ∷ ns) = go (same_bytes x n) (known_last x ns)
  where
    go : (b : Bool) → known x (ns ++ x ∷ []) ≡ true → b || known x (ns ++ x ∷ []) ≡ true
    go true e = refl
    go false e = e

-- another name behind them makes no name known but itself
known_less : (x y : Name) (ns : List Name) → same_bytes x y ≡ false → known x (ns ++ y ∷ []) ≡ known x ns
known_less x y [] d = ap (λ b. b || false) d
known_less x y (n ∷ ns) d = ap (λ b. same_bytes x n || b) (known_less x y ns d)

apart : (x y : Name) (ns : List Name) → known y (x ∷ ns) ≡ false → same_bytes x y ≡ false
apart x y ns k = go (same_bytes x y) refl
  where
    go : (b : Bool) → same_bytes x y ≡ b → b ≡ false
    go false e = refl
    go true e = absurd (clash (sym k ∙ ap (λ n. known n (x ∷ ns)) (sym (same_is x y e)) ∙ ap (λ b. b || known x ns) (same_self x)))

known_rest : (y n : Name) (ns : List Name) → known y (n ∷ ns) ≡ false → known y ns ≡ false
known_rest y n ns k = go (same_bytes y n) k
  where
    go : (b : Bool) → b || known y ns ≡ false → known y ns ≡ false
    go true h = absurd (clash (sym h))
    go false h = h

distinct_more : (y : Name) (ns : List Name) → distinct ns ≡ true → known y ns ≡ false → distinct (ns ++ y ∷ []) ≡ true
distinct_more y [] d k = refl
distinct_more y (n ∷ ns) d k =
    let parts = and_true (not (known n ns)) (distinct ns) d in
    ap₂ ◌&&◌ (ap not (known_less n y ns (apart n y ns k)) ∙ parts.0) (distinct_more y ns parts.1 (known_rest y n ns k))

noted_distinct : (x : Name) (ns : List Name) → distinct ns ≡ true → distinct (noted x ns) ≡ true
noted_distinct x ns d = go (known x ns) refl
  where
    go : (b : Bool) → known x ns ≡ b → distinct (cond b ns (ns ++ x ∷ [])) ≡ true
    go true e = d
    go false e = distinct_more x ns d e

noted_keeps : (x y : Name) (ns : List Name) → known x ns ≡ true → known x (noted y ns) ≡ true
noted_keeps x y ns k = go (known y ns)
  where
    go : (b : Bool) → known x (cond b ns (ns ++ y ∷ [])) ≡ true
    go true = k
    go false = known_more x y ns k

noted_known : (x : Name) (ns : List Name) → known x (noted x ns) ≡ true
noted_known x ns = go (known x ns) refl
  where
    go : (b : Bool) → known x ns ≡ b → known x (cond b ns (ns ++ x ∷ [])) ≡ true
    go true e = e
    go false e = known_last x ns

-- ---- word by word

-- a word that is a name is known
abbrev pub NameIn : List Name → Word → Type 0
NameIn ns (iri x) = Unit {0}
NameIn ns (literal x) = Unit {0}
NameIn ns (name x) = known x ns ≡ true
NameIn ns open_brace = Unit {0}
NameIn ns close_brace = Unit {0}
NameIn ns open_paren = Unit {0}
NameIn ns close_paren = Unit {0}
NameIn ns dot = Unit {0}
NameIn ns bar = Unit {0}
NameIn ns slash = Unit {0}
NameIn ns caret = Unit {0}
NameIn ns star = Unit {0}
NameIn ns bang = Unit {0}
NameIn ns optional = Unit {0}
NameIn ns union = Unit {0}
NameIn ns wrong = Unit {0}
NameIn ns end = Unit {0}

abbrev pub NamesIn : List Name → List Word → Type 0
NamesIn ns [] = Unit {0}
NamesIn ns (x ∷ v) = NameIn ns x × NamesIn ns v

record Notes (s : Seen) (x : Word) : Type 0 where
  distinct : distinct s.names ≡ true → distinct (after s x).names ≡ true
  keeps : (n : Name) → known n s.names ≡ true → known n (after s x).names ≡ true
  few : length s.names ≤ 8 → limit s x ≡ None → length (after s x).names ≤ 8
  -- what is known later knows this word too
  has : (ns : List Name) → ((n : Name) → known n (after s x).names ≡ true → known n ns ≡ true) → NameIn ns x

no_name : (s : Seen) (x : Word) → (after s x).names ≡ s.names → ((ns : List Name) → NameIn ns x) → Notes s x
no_name s x e h = record {
  distinct = λ d. ap distinct e ∙ d;
  keeps = λ n k. ap (known n) e ∙ k;
  few = λ l f. omega (arith, l, ap length e);
  has = λ ns k. h ns;
}

some_none : {r : Reason} → ◌≡◌ {A = Option Reason} (Some r) None → ⊥
some_none e = let z : ◌≡◌ {A = ℕ} 0 1 = cc in omega arith

few_names : (x : Name) (ns : List Name) (b : Bool) → length ns ≤ 8 → cond b None (cond (ltb (length ns) 8) (at_most 16 (length x)) (Some TooManyVariables)) ≡ None → length (cond b ns (ns ++ x ∷ [])) ≤ 8
few_names x ns true l e = l
few_names x ns false l e = go (ltb (length ns) 8) refl e
  where
    go : (b : Bool) → ltb (length ns) 8 ≡ b → cond b (at_most 16 (length x)) (Some TooManyVariables) ≡ None → length (ns ++ x ∷ []) ≤ 8
    go true h f = omega (arith, ltb-true (length ns) 8 h, length_push ns x)
    go false h f = absurd (some_none f)

a_name : (s : Seen) (x : Name) → Notes s (name x)
a_name s x = record {
  distinct = noted_distinct x s.names;
  keeps = λ n k. noted_keeps n x s.names k;
  few = few_names x s.names (known x s.names);
  has = λ ns k. k x (noted_known x s.names);
}

notes : (s : Seen) (x : Word) → Notes s x
notes s (iri x) = no_name s (iri x) refl (λ ns. tt)
notes s (literal x) = no_name s (literal x) refl (λ ns. tt)
notes s (name x) = a_name s x
notes s open_brace = no_name s open_brace refl (λ ns. tt)
notes s close_brace = no_name s close_brace refl (λ ns. tt)
notes s open_paren = no_name s open_paren refl (λ ns. tt)
notes s close_paren = no_name s close_paren refl (λ ns. tt)
notes s dot = no_name s dot refl (λ ns. tt)
notes s bar = no_name s bar refl (λ ns. tt)
notes s slash = no_name s slash refl (λ ns. tt)
notes s caret = no_name s caret refl (λ ns. tt)
notes s star = no_name s star refl (λ ns. tt)
notes s bang = no_name s bang refl (λ ns. tt)
notes s optional = no_name s optional refl (λ ns. tt)
notes s union = no_name s union refl (λ ns. tt)
notes s wrong = no_name s wrong refl (λ ns. tt)
notes s end = no_name s end refl (λ ns. tt)

pub gathered_distinct : (s : Seen) (v : List Word) → distinct s.names ≡ true → distinct (gather s v).names ≡ true
gathered_distinct s [] d = d
gathered_distinct s (x ∷ v) d = gathered_distinct (after s x) v ((notes s x).distinct d)

pub gathered_keeps : (s : Seen) (v : List Word) (n : Name) → known n s.names ≡ true → known n (gather s v).names ≡ true
gathered_keeps s [] n k = k
gathered_keeps s (x ∷ v) n k = gathered_keeps (after s x) v n ((notes s x).keeps n k)

pub gathered_few : (s : Seen) (v : List Word) → length s.names ≤ 8 → Clear s v → length (gather s v).names ≤ 8
gathered_few s [] l c = l
gathered_few s (x ∷ v) l c = gathered_few (after s x) v ((notes s x).few l c.0) c.1

pub gathered_all : (s : Seen) (v : List Word) → NamesIn (gather s v).names v
gathered_all s [] = tt
gathered_all s (x ∷ v) = ((notes s x).has (gather s (x ∷ v)).names (λ n k. gathered_keeps (after s x) v n k), gathered_all (after s x) v)
