-- The terms of a question, read one after the other.
use Rattle.std.proofs.Common.{◌≡◌, ℕ, ◌+◌, ◌≤◌, Bool, true, false, cond, List, [], ◌∷◌, ◌++◌, map, length, take, drop, is_some, Some, None, Ok, Err, Option, sym, refl, ap, ◌∙◌, subst, ap₂, arith, take-append-drop, take_all, take_at}
use lib.ListN.{length-map}
use Rattle.std.proofs.lemmas.List.{take_more, map_push}
use Rattle.room.specs.Items.{items}
use Rattle.terms.specs.Terms.{Term}
use Rattle.question.specs.declared.question.Question.{Question}
use Rattle.question.specs.Arena.{term_of}
use Rattle.question.specs.Asking.{asked}
use Rattle.question.specs.Views.{Stands}
use Rattle.lexicon.specs.Numbering.{number_of, enter, enter_all, within, admit, admitted}
use Rattle.lexicon.proofs.Numbers.{enter_all_append, enter_all_front, within_front, not_true}
use Rattle.store.specs.State.{State, fitting, entered, enters, numbered}
use Rattle.store.specs.Entering.{Entering}

pub few_terms : (q : Question) → length (asked q).terms ≤ 2048
few_terms q = omega (arith, length-map (items q.terms) (term_of (items q.text)), q.terms.few)

-- one term more
pub take_next : (xs : List Term) (i : ℕ) (x : Term) → Stands xs i x → take (i + 1) xs ≡ take i xs ++ x ∷ []
take_next xs i x s = take_more xs i x s.within ∙ ap (λ (y : Term). take i xs ++ y ∷ []) (s.is x)

pub enter_next : (ts xs : List Term) (i : ℕ) (x : Term) → Stands xs i x → enter_all ts (take (i + 1) xs) ≡ enter (enter_all ts (take i xs)) x
enter_next ts xs i x s = ap (enter_all ts) (take_next xs i x s) ∙ enter_all_append ts (take i xs) (x ∷ [])

-- whether a term was admitted
pub some_in : (ts : List Term) (t : Term) (r : Option ℕ) (us : List Term) → is_some r ≡ true → r ≡ admitted ts t → us ≡ admit ts t → (us ≡ enter ts t) × (r ≡ Some (number_of (enter ts t) t))
some_in ts t r us h e f = go (within (enter ts t)) refl
  where
    go : (b : Bool) → within (enter ts t) ≡ b → (us ≡ enter ts t) × (r ≡ Some (number_of (enter ts t) t))
    go true w = (f ∙ ap (λ b. cond b (enter ts t) ts) w, e ∙ ap (λ b. cond b (Some (number_of (enter ts t) t)) None) w)
    go false w =
        let g : r ≡ None = e ∙ ap (λ b. cond b (Some (number_of (enter ts t) t)) None) w in
        let k : false ≡ true = sym (ap is_some g) ∙ h in
        let z : ◌≡◌ {A = ℕ} 0 1 = cc in absurd (omega arith)

pub none_in : (ts : List Term) (t : Term) (r : Option ℕ) (us : List Term) → is_some r ≡ false → r ≡ admitted ts t → us ≡ admit ts t → (within (enter ts t) ≡ false) × (us ≡ ts)
none_in ts t r us h e f = go (within (enter ts t)) refl
  where
    go : (b : Bool) → within (enter ts t) ≡ b → (within (enter ts t) ≡ false) × (us ≡ ts)
    go true w =
        let g : r ≡ Some (number_of (enter ts t) t) = e ∙ ap (λ b. cond b (Some (number_of (enter ts t) t)) None) w in
        let k : true ≡ false = sym (ap is_some g) ∙ h in
        let z : ◌≡◌ {A = ℕ} 0 1 = cc in absurd (omega arith)
    go false w = (w, f ∙ ap (λ b. cond b (enter ts t) ts) w)

-- a term on the way does not fit, so all together do not
pub stops_at : (ts xs : List Term) (i : ℕ) (x : Term) → Stands xs i x → within (enter (enter_all ts (take i xs)) x) ≡ false → within (enter_all ts xs) ≡ false
stops_at ts xs i x s w =
    let t = enter_all ts (take i xs) in
    let whole : enter_all ts xs ≡ enter_all (enter t x) (drop (i + 1) xs) =
    ap (enter_all ts) (sym (take-append-drop (i + 1) xs)) ∙ enter_all_append ts (take (i + 1) xs) (drop (i + 1) xs) ∙ ap (λ (l : List Term). enter_all l (drop (i + 1) xs)) (enter_next ts xs i x s) in
    let f = enter_all_front (enter t x) (drop (i + 1) xs) in
    not_true (within (enter_all ts xs)) (λ e.
    let g = within_front (enter t x) f.0 (ap within (sym (whole ∙ f.1)) ∙ e) in
    let z : true ≡ false = sym g ∙ w in
    let y : ◌≡◌ {A = ℕ} 0 1 = cc in omega (arith, y))

-- what a question told of a place
pub stands_told : (xs : List Term) (i : ℕ) (t : Term) → (y : Term) × (t ≡ y) × Stands xs i y → Stands xs i t
stands_told xs i t p = subst (Stands xs i) (sym p.1) p.2

pub entering_stops : (ts xs : List Term) (i : ℕ) (x : Term) (us vs : List Term) (a : Option ℕ) → Stands xs i x → us ≡ enter_all ts (take i xs) → is_some a ≡ false → a ≡ admitted us x → vs ≡ admit us x → Entering ts xs false vs
entering_stops ts xs i x us vs a s e h f g =
    let r = none_in us x a vs h f g in
    let pre = enter_all_front ts (take i xs) in
    (stops_at ts xs i x s (ap (λ (l : List Term). within (enter l x)) (sym e) ∙ r.0), (pre.0, r.1 ∙ e ∙ pre.1))

pub entering_goes : (ts xs : List Term) (i : ℕ) (x : Term) (us vs : List Term) (a : Option ℕ) → Stands xs i x → us ≡ enter_all ts (take i xs) → is_some a ≡ true → a ≡ admitted us x → vs ≡ admit us x → vs ≡ enter_all ts (take (i + 1) xs)
entering_goes ts xs i x us vs a s e h f g = (some_in us x a vs h f g).0 ∙ ap (λ (l : List Term). enter l x) e ∙ sym (enter_next ts xs i x s)

pub entering_ends : (ts xs : List Term) (i : ℕ) (us : List Term) → length xs ≤ i → us ≡ enter_all ts (take i xs) → within us ≡ true → Entering ts xs true us
entering_ends ts xs i us h e w =
    let f = e ∙ ap (enter_all ts) (take_all i xs h) in
    (ap within (sym f) ∙ w, f)

pub numbers_next : (f : Term → ℕ) (xs : List Term) (i n : ℕ) (x : Term) (ns ms : List ℕ) → Stands xs i x → ns ≡ map f (take i xs) → n ≡ f x → ms ≡ ns ++ n ∷ [] → ms ≡ map f (take (i + 1) xs)
numbers_next f xs i n x ns ms s e en g =
    g ∙ ap₂ (λ (l : List ℕ) (k : ℕ). l ++ k ∷ []) e en ∙ sym (ap (map f) (take_next xs i x s) ∙ map_push f (take i xs) x)

-- ---- the whole of it

pub entered_all : (s : State) (xs : List Term) (us : List Term) → Entering s.terms xs true us → (Ok tt ≡ enters xs s) × (record { terms = us; entries = s.entries; triples = s.triples } ≡ entered xs s)
unfolding fitting
entered_all s xs us h = (
  sym (ap (λ b. cond b (Ok tt) (Err (record {}))) h.0),
  ap (λ (l : List Term). record { terms = l; entries = s.entries; triples = s.triples }) h.1 ∙ sym (ap (λ b. cond b (record { terms = enter_all s.terms xs; entries = s.entries; triples = s.triples }) s) h.0),
)

pub numbered_all : (s : State) (xs : List Term) (us : List Term) (ns ms : List ℕ) → Entering s.terms xs true us → ms ≡ map (number_of us) xs → ms ≡ numbered xs s ns
unfolding fitting
numbered_all s xs us ns ms h e = e ∙ ap (λ (l : List Term). map (number_of l) xs) h.1 ∙ sym (ap (λ b. cond b (map (number_of (enter_all s.terms xs)) xs) ns) h.0)

-- what had entered is forgotten
pub entered_none : (s : State) (xs us vs : List Term) (n : ℕ) (ns : List ℕ) → Entering s.terms xs false us → n ≡ length s.terms → vs ≡ take n us → (Err (record {}) ≡ enters xs s) × (record { terms = vs; entries = s.entries; triples = s.triples } ≡ entered xs s) × (ns ≡ numbered xs s ns)
unfolding fitting
entered_none s xs us vs n ns h en e =
    let back : vs ≡ s.terms = e ∙ ap (take n) h.1.1 ∙ take_at s.terms h.1.0 n (sym en) in (
      sym (ap (λ b. cond b (Ok tt) (Err (record {}))) h.0),
      ap (λ (l : List Term). record { terms = l; entries = s.entries; triples = s.triples }) back ∙ sym (ap (λ b. cond b (record { terms = enter_all s.terms xs; entries = s.entries; triples = s.triples }) s) h.0),
      sym (ap (λ b. cond b (map (number_of (enter_all s.terms xs)) xs) ns) h.0),
    )
