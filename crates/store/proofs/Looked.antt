-- A lookup as a whole.
use Rattle.std.proofs.Common.{◌≡◌, ℕ, ◌<◌, ◌≤◌, true, false, cond, List, [], ◌∷◌, ◌++◌, length, take, Some, None, Ok, Err, Option, sym, refl, ap, ◌∙◌, arith, le-leb}
use borrow.Author.Tests.{lt-leb}
use Rattle.terms.specs.Terms.{Term}
use Rattle.lexicon.specs.Numbering.{tell, term_at}
use Rattle.shelf.specs.declared.items.Listed.{Listed}
use Rattle.shelf.specs.declared.items.Noted.{Noted}
use Rattle.web.specs.Agreement.{Tells}
use Rattle.web.specs.Meaning.{Told}
use Rattle.shelf.specs.declared.items.Mark.{Mark}
use Rattle.store.specs.declared.record.Entry.{Entry}
use Rattle.store.specs.declared.refusals.Unlooked.TheVariants.{Full, NoSuch}
use Rattle.store.specs.Places.{entries_of}
use Rattle.store.specs.State.{State, noted}
use Rattle.store.specs.Looking.{address_of, looked_at, answered_at, full, looked, looks, Fetched}
use Rattle.store.proofs.Recording.{entries_behind}

pub full_is : (s : State) → 256 ≤ length s.entries → full s ≡ true
unfolding full
full_is s h = le-leb _ _ h

pub full_not : (s : State) → length s.entries < 256 → full s ≡ false
unfolding full
full_not s h = lt-leb _ _ h

pub looked_full : (tells : Tells) (n : ℕ) (s : State) → full s ≡ true → (Err Full ≡ looks n s) × (s ≡ looked tells n s)
looked_full tells n s e =
    (sym (ap (λ b. cond b (Err Full) (answered_at (address_of (term_at s.terms n)))) e), sym (ap (λ b. cond b s (looked_at (address_of (term_at s.terms n)) tells n s)) e))

looked_free : (tells : Tells) (n : ℕ) (s : State) (a : Option (List ℕ)) → full s ≡ false → address_of (term_at s.terms n) ≡ a → (answered_at a ≡ looks n s) × (looked_at a tells n s ≡ looked tells n s)
looked_free tells n s a e f = (
  ap answered_at (sym f) ∙ sym (ap (λ b. cond b (Err Full) (answered_at (address_of (term_at s.terms n)))) e),
  ap (λ (o : Option (List ℕ)). looked_at o tells n s) (sym f) ∙ sym (ap (λ b. cond b s (looked_at (address_of (term_at s.terms n)) tells n s)) e),
)

copied_none : (a : Option (List ℕ)) → None ≡ tell (take 129) a → a ≡ None
copied_none None e = refl
copied_none (Some x) e = let z : ◌≡◌ {A = ℕ} 0 1 = cc in absurd (omega arith)

pub copied_some : (a : Option (List ℕ)) (y : List ℕ) → Some y ≡ tell (take 129) a → (x : List ℕ) × (a ≡ Some x) × (y ≡ take 129 x)
copied_some None y e = let z : ◌≡◌ {A = ℕ} 0 1 = cc in absurd (omega arith)
copied_some (Some x) y e = (x, refl, cc)

pub looked_nowhere : (tells : Tells) (n : ℕ) (s : State) → full s ≡ false → None ≡ tell (take 129) (address_of (term_at s.terms n)) → (Err NoSuch ≡ looks n s) × (s ≡ looked tells n s)
looked_nowhere tells n s e h = looked_free tells n s None e (copied_none _ h)

pub looked_there : (tells : Tells) (n : ℕ) (s : State) (x : List ℕ) (t : Told) (ns : List Noted) (m : Mark) (us : List Term) (ms : List Listed) (os : List Noted) (f : ℕ) → full s ≡ false → address_of (term_at s.terms n) ≡ Some x → t ≡ tells x → s.entries ≡ entries_of ns → Fetched t s.terms s.triples m us ms → os ≡ ns ++ record { iri = n; mark = m; first = f } ∷ []
    → (Ok tt ≡ looks n s) × (record { terms = us; entries = entries_of os; triples = ms } ≡ looked tells n s)
looked_there tells n s x t ns m us ms os first e f et es r eo =
    let free = looked_free tells n s (Some x) e f in
    let more : entries_of os ≡ s.entries ++ record { iri = n; mark = m } ∷ [] =
    ap entries_of eo ∙ entries_behind ns (record { iri = n; mark = m; first = first }) ∙ ap (λ (l : List Entry). l ++ record { iri = n; mark = m } ∷ []) (sym es) in (
      free.0,
      ap (λ (l : List Entry). record { terms = us; entries = l; triples = ms }) more
          ∙ r.kept n s.entries
          ∙ ap (λ (o : Told). noted o n s) et
          ∙ free.1,
    )
