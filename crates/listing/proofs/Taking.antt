-- Names taken one after the other, and those that a question has.
use Rattle.std.proofs.Common.{◌≡◌, ℕ, ◌+◌, ◌≤◌, Bool, true, false, cond, leb, ltb, ◌&&◌, ◌⊎◌, inl, inr, List, [], ◌∷◌, ◌++◌, map, length, take, Some, None, Option, sym, refl, ap, ap₂, ◌∙◌, arith, leb-true}
use Rattle.std.specs.List.{list_all}
use Rattle.std.proofs.lemmas.Bool.{and_parts, and_from}
use Rattle.std.proofs.lemmas.List.{length-map, map_more, map_push, take_all}
use Rattle.std.proofs.lemmas.List.Folds.{list_all-append}
use Rattle.room.specs.Items.{items}
use Rattle.terms.specs.Bytes.{word_byte}
use Rattle.tokens.specs.Words.{Word, iri, literal, name, open_brace, close_brace, open_paren, close_paren, dot, bar, slash, caret, star, bang, optional, union, wrong, end}
use Rattle.tokens.specs.Lexed.{Spot, tokens}
use Rattle.tokens.specs.Laid.{Spells, Stray, Laid}
use Rattle.tokens.proofs.Lays.{every_text_is_laid}
use Rattle.grammar.specs.declared.refusal.Reason.{Reason}
use Rattle.grammar.specs.declared.refusal.Reason.TheVariants.{TooManyVariables, TooLong}
use Rattle.grammar.specs.Grammar.{Name}
use Rattle.grammar.specs.Limits.{Seen, nothing, known, after, gather, at_most, limit, Clear}
use Rattle.grammar.specs.Reading.{words}
use Rattle.question.specs.declared.question.Question.{Question}
use Rattle.question.specs.Arena.{name_of}
use Rattle.question.specs.Asking.{asked}
use Rattle.question.specs.Views.{Stands}
use Rattle.listing.specs.declared.name.Name.{Name as Held}
use Rattle.listing.specs.Named.{bytes_of, shortened}
use Rattle.listing.specs.Laws.{whole, NamesOfQuestionsStay, NamesOfQuestionsAreWhole}
use Rattle.listing.proofs.Cutting.{whole_by}

pub few_names : (q : Question) → length (asked q).names ≤ 8
few_names q = omega (arith, length-map (items q.names) (name_of (items q.text)), q.names.few)

-- one name more
pub name_more : (xs : List Name) (i : ℕ) (x : Name) (n : Held) (hs ks : List Held) → (y : Name) × (x ≡ y) × Stands xs i y → bytes_of n ≡ take 16 x → map bytes_of hs ≡ shortened (take i xs) → ks ≡ hs ++ n ∷ [] → map bytes_of ks ≡ shortened (take (i + 1) xs)
name_more xs i x n hs ks s e h g =
    let next = map_more (take 16) xs i s.0 s.2.within ∙ ap (λ (z : Name). map (take 16) (take i xs) ++ take 16 z ∷ []) (s.2.is s.0) in
    ap (map bytes_of) g ∙ map_push bytes_of hs n ∙ ap₂ (λ (l : List Name) (k : Name). l ++ k ∷ []) h (e ∙ ap (take 16) s.1) ∙ sym next

-- ---- the names of a question are short

some_none : {r : Reason} → ◌≡◌ {A = Option Reason} (Some r) None → ⊥
some_none e = let z : ◌≡◌ {A = ℕ} 0 1 = cc in omega arith

fits : (n : ℕ) (few : Bool) (b : Bool) → leb n 16 ≡ b → cond few (cond b None (Some TooLong)) (Some TooManyVariables) ≡ None → n ≤ 16
fits n true true e h = leb-true n 16 e
fits n true false e h = absurd (some_none h)
fits n false b e h = absurd (some_none h)

short_name : (x : Name) (ns : List Name) (few b : Bool) → shortened ns ≡ ns → cond b None (cond few (at_most 16 (length x)) (Some TooManyVariables)) ≡ None → shortened (cond b ns (ns ++ x ∷ [])) ≡ cond b ns (ns ++ x ∷ [])
short_name x ns few true h l = h
short_name x ns few false h l = map_push (take 16) ns x ∙ ap₂ (λ (m : List Name) (y : Name). m ++ y ∷ []) h (take_all 16 x (fits (length x) few (leb (length x) 16) refl l))

short_after : (s : Seen) (x : Word) → shortened s.names ≡ s.names → limit s x ≡ None → shortened (after s x).names ≡ (after s x).names
short_after s (iri x) h l = h
short_after s (literal x) h l = h
short_after s (name x) h l = short_name x s.names (ltb (length s.names) 8) (known x s.names) h l
short_after s open_brace h l = h
short_after s close_brace h l = h
short_after s open_paren h l = h
short_after s close_paren h l = h
short_after s dot h l = h
short_after s bar h l = h
short_after s slash h l = h
short_after s caret h l = h
short_after s star h l = h
short_after s bang h l = h
short_after s optional h l = h
short_after s union h l = h
short_after s wrong h l = h
short_after s end h l = h

short_all : (s : Seen) (v : List Word) → shortened s.names ≡ s.names → Clear s v → shortened (gather s v).names ≡ (gather s v).names
short_all s [] h c = h
short_all s (x ∷ v) h c = short_all (after s x) v (short_after s x h c.0) c.1

pub names_stay : NamesOfQuestionsStay
names_stay x q h = ap shortened h.names ∙ short_all nothing (words (tokens x)) refl h.lawful.clear ∙ sym h.names

-- ---- and have no tab and no LF

abbrev said : Word → Bool
said (iri x) = true
said (literal x) = true
said (name x) = whole x
said open_brace = true
said close_brace = true
said open_paren = true
said close_paren = true
said dot = true
said bar = true
said slash = true
said caret = true
said star = true
said bang = true
said optional = true
said union = true
said wrong = true
said end = true

spelled_said : (w : Word) (body rest : List ℕ) → Spells w body rest → said w ≡ true
spelled_said (iri x) body rest h = refl
spelled_said (literal x) body rest h = refl
spelled_said (name x) body rest h = whole_by word_byte refl refl x h.2
spelled_said open_brace body rest h = refl
spelled_said close_brace body rest h = refl
spelled_said open_paren body rest h = refl
spelled_said close_paren body rest h = refl
spelled_said dot body rest h = refl
spelled_said bar body rest h = refl
spelled_said slash body rest h = refl
spelled_said caret body rest h = refl
spelled_said star body rest h = refl
spelled_said bang body rest h = refl
spelled_said optional body rest h = refl
spelled_said union body rest h = refl
spelled_said wrong body rest h = refl
spelled_said end body rest h = refl

-- every name among the words of a text
laid_said : (v : List Spot) (i : ℕ) (bs : List ℕ) → Laid i bs v → list_all said (words v) ≡ true
laid_said [] i bs h = refl
laid_said (s ∷ v) i bs h = go h.5 (laid_said v)
  where
    go : ((s.word ≡ end) × (h.1 ≡ []) × (v ≡ [])) ⊎ ((s.word ≡ wrong) × Stray h.1 × (v ≡ [])) ⊎ ((body : List ℕ) × (rest : List ℕ) × (h.1 ≡ body ++ rest) × Spells s.word body rest × Laid (s.at + length body) rest v) → ((i : ℕ) (bs : List ℕ) → Laid i bs v → list_all said (words v) ≡ true) → list_all said (words (s ∷ v)) ≡ true
    go (inl w) ih = and_from (said s.word) (list_all said (words v)) (ap said w.0) (ap (λ u. list_all said (words u)) w.2)
    go (inr (inl w)) ih = and_from (said s.word) (list_all said (words v)) (ap said w.0) (ap (λ u. list_all said (words u)) w.2)
    go (inr (inr w)) ih = and_from (said s.word) (list_all said (words v)) (spelled_said s.word w.0 w.1 w.3) (ih (s.at + length w.0) w.1 w.4)

noted_whole : (x : Name) (ns : List Name) (b : Bool) → whole x ≡ true → list_all whole ns ≡ true → list_all whole (cond b ns (ns ++ x ∷ [])) ≡ true
noted_whole x ns true h l = l
noted_whole x ns false h l = list_all-append whole ns (x ∷ []) ∙ and_from (list_all whole ns) (whole x && true) l (and_from (whole x) true h refl)

whole_after : (s : Seen) (x : Word) → said x ≡ true → list_all whole s.names ≡ true → list_all whole (after s x).names ≡ true
whole_after s (iri x) h l = l
whole_after s (literal x) h l = l
whole_after s (name x) h l = noted_whole x s.names (known x s.names) h l
whole_after s open_brace h l = l
whole_after s close_brace h l = l
whole_after s open_paren h l = l
whole_after s close_paren h l = l
whole_after s dot h l = l
whole_after s bar h l = l
whole_after s slash h l = l
whole_after s caret h l = l
whole_after s star h l = l
whole_after s bang h l = l
whole_after s optional h l = l
whole_after s union h l = l
whole_after s wrong h l = l
whole_after s end h l = l

whole_all : (s : Seen) (v : List Word) → list_all said v ≡ true → list_all whole s.names ≡ true → list_all whole (gather s v).names ≡ true
whole_all s [] h l = l
whole_all s (x ∷ v) h l =
    let p = and_parts (said x) (list_all said v) h in
    whole_all (after s x) v p.1 (whole_after s x p.0 l)

pub names_unparted : NamesOfQuestionsAreWhole
names_unparted x q h = ap (list_all whole) h.names ∙ whole_all nothing (words (tokens x)) (laid_said (tokens x) 0 x (every_text_is_laid x)) refl
