-- What a sub-question reads, and where it has too much: at once, or where it leads.
use Rattle.std.proofs.Common.{◌≡◌, ℕ, suc, Bool, true, false, ◌⊎◌, List, [], ◌∷◌, length, Some, None, Option, sym, refl, ap, subst, inl, inr, arith}
use lib.Bits.{bit_or}
use Rattle.grammar.specs.Syntax.{Path, link, negated, inverse, star, sequence, alternative, End, Pattern, empty, line, and, union, opt}
use Rattle.grammar.specs.Bounded.{fixed}
use Rattle.grammar.specs.Masks.{member}
use Rattle.grammar.specs.Judged.{sure_mask}
use Rattle.semantics.specs.Terms.{Terms, In}
use Rattle.semantics.specs.Rows.{Row, merge, compatible}
use Rattle.semantics.specs.Graphs.{Graph, pair}
use Rattle.semantics.specs.Meaning.{possible}
use Rattle.walks.specs.Plans.{left_first, left_step_first, from_left, fixed_to, allows, Asking, path, part, Leads, to_inverse, to_left_choice, to_right_choice, to_left_step, from_left_step, to_right_step, from_right_step, star_onward, star_backward, to_path, to_left_side, from_left_side, to_right_side, from_right_side, to_left_union, to_right_union, to_outside, to_option, Reached, here, there, Reads, for_link, for_negated}
use Rattle.semantics.proofs.Lists.{clash}
use Rattle.walks.specs.Crowds.{Apart, Crowd, Crowded, TooMany}
use Rattle.solving.specs.Solved.{left_of, right_of}
use Rattle.answering.proofs.PathSums.{both, PathRow}

-- some sub-question that is reached reads the term, whatever its kind
pub record ReadAt {A : Type 0} (T : Terms A) (G : Graph A) (q : Asking A) (i : A) : Type 0 where
  pub asking : Asking A
  pub reached : Reached T G q asking
  pub reads : Reads asking i

module _ {A : Type 0} {T : Terms A} {G : Graph A} where
  pub much_here : {q : Asking A} → Crowded T G q → TooMany T G q
  much_here {q} c = record { asking = q; reached = here; crowded = c }

  pub much_on : {q z : Asking A} → Leads T G q z → TooMany T G z → TooMany T G q
  much_on l t = record { asking = t.asking; reached = there l t.reached; crowded = t.crowded }

  pub read_here : {q : Asking A} {i : A} → Reads q i → ReadAt T G q i
  read_here {q} r = record { asking = q; reached = here; reads = r }

  pub read_on : {q z : Asking A} {i : A} → Leads T G q z → ReadAt T G z i → ReadAt T G q i
  read_on l t = record { asking = t.asking; reached = there l t.reached; reads = t.reads }

  crowded_split : {q z : Asking A} → Reached T G q z → Crowded T G z → Crowded T G q ⊎ ((y : Asking A) × Leads T G q y × TooMany T G y)
  crowded_split here c = inl c
  crowded_split (there {y = y} l r) c = inr (y, l, record { asking = _; reached = r; crowded = c })

  pub much_split : {q : Asking A} → TooMany T G q → Crowded T G q ⊎ ((y : Asking A) × Leads T G q y × TooMany T G y)
  much_split t = crowded_split t.reached t.crowded

  reads_split : {q z : Asking A} {i : A} → Reached T G q z → Reads z i → Reads q i ⊎ ((y : Asking A) × Leads T G q y × ReadAt T G y i)
  reads_split here c = inl c
  reads_split (there {y = y} l r) c = inr (y, l, record { asking = _; reached = r; reads = c })

  pub read_split : {q : Asking A} {i : A} → ReadAt T G q i → Reads q i ⊎ ((y : Asking A) × Leads T G q y × ReadAt T G y i)
  read_split t = reads_split t.reached t.reads

-- ---- where a sub-question leads, and what holds there

module _ {A : Type 0} {T : Terms A} {G : Graph A} (P : Asking A → Type 0) where
  pub after_link : (l r : Bool) (u : A) (x y : Option A) (z : Asking A) → Leads T G (path l r (link u) x y) z → ⊥
  after_link l r u x y z h = elim h [ ]

  pub after_negated : (l r : Bool) (us : List A) (x y : Option A) (z : Asking A) → Leads T G (path l r (negated us) x y) z → ⊥
  after_negated l r us x y z h = elim h [ ]

  pub after_inverse : (l r : Bool) (p : Path A) (x y : Option A) (z : Asking A) → Leads T G (path l r (inverse p) x y) z → P z → P (path r l p y x)
  after_inverse l r p x y z to_inverse h = h

  pub after_alternative : (l r : Bool) (p q : Path A) (x y : Option A) (z : Asking A) → Leads T G (path l r (alternative p q) x y) z → P z → P (path l r p x y) ⊎ P (path l r q x y)
  after_alternative l r p q x y z to_left_choice h = inl h
  after_alternative l r p q x y z to_right_choice h = inr h

  pub after_left_step : (l r : Bool) (p q : Path A) (x y : Option A) (z : Asking A) → left_step_first l r p q ≡ true → Leads T G (path l r (sequence p q) x y) z → P z
      → P (path l false p x None) ⊎ ((c : Row A) × PathRow T G p x None c × P (path true r q (right_of c) y))
  after_left_step l r p q x y z e (to_left_step d) h = inl h
  after_left_step l r p q x y z e (from_left_step d a m i j) h = inr (both a m, (a, m, i, refl, j, refl), h)
  after_left_step l r p q x y z e (to_right_step d) h = clash e d
  after_left_step l r p q x y z e (from_right_step d m b i j) h = clash e d

  pub after_right_step : (l r : Bool) (p q : Path A) (x y : Option A) (z : Asking A) → left_step_first l r p q ≡ false → Leads T G (path l r (sequence p q) x y) z → P z
      → P (path false r q None y) ⊎ ((c : Row A) × PathRow T G q None y c × P (path l true p x (left_of c)))
  after_right_step l r p q x y z e (to_left_step d) h = clash d e
  after_right_step l r p q x y z e (from_left_step d a m i j) h = clash d e
  after_right_step l r p q x y z e (to_right_step d) h = inl h
  after_right_step l r p q x y z e (from_right_step d m b i j) h = inr (both m b, (m, b, refl, i, j, refl), h)

  pub after_star_left : (l r : Bool) (p : Path A) (x y : Option A) (z : Asking A) → from_left l p ≡ true → Leads T G (path l r (star p) x y) z → P z
      → (a : A) × (m : A) × (allows T x a ≡ true) × (pair T G (star p) a m ≡ true) × P (path true false p (Some m) None)
  after_star_left l r p x y z e (star_onward d a m i j) h = (a, m, i, j, h)
  after_star_left l r p x y z e (star_backward d m b i j) h = clash e d

  pub after_star_right : (l r : Bool) (p : Path A) (x y : Option A) (z : Asking A) → from_left l p ≡ false → Leads T G (path l r (star p) x y) z → P z
      → (b : A) × (m : A) × (allows T y b ≡ true) × (pair T G (star p) m b ≡ true) × P (path false true p None (Some m))
  after_star_right l r p x y z e (star_onward d a m i j) h = clash d e
  after_star_right l r p x y z e (star_backward d m b i j) h = (b, m, i, j, h)

  pub after_empty : (m : ℕ) (r : Row A) (z : Asking A) → Leads T G (part m empty r) z → ⊥
  after_empty m r z h = elim h [ ]

  pub after_line : (m : ℕ) (e d : End A ℕ) (p : Path A) (r : Row A) (z : Asking A) → Leads T G (part m (line e p d) r) z → P z
      → P (path (fixed (member m) e) (fixed (member m) d) p (fixed_to r e) (fixed_to r d))
  after_line m e d p r z to_path h = h

  pub after_left_side : (m : ℕ) (p q : Pattern A ℕ) (r : Row A) (z : Asking A) → left_first m p q ≡ true → Leads T G (part m (and p q) r) z → P z
      → P (part m p r) ⊎ ((a : Row A) × (In a (possible T G p) × (compatible T r a ≡ true)) × P (part (bit_or m (sure_mask p)) q (merge r a)))
  after_left_side m p q r z e (to_left_side d) h = inl h
  after_left_side m p q r z e (from_left_side d a i j) h = inr (a, (i, j), h)
  after_left_side m p q r z e (to_right_side d) h = clash e d
  after_left_side m p q r z e (from_right_side d a i j) h = clash e d

  pub after_right_side : (m : ℕ) (p q : Pattern A ℕ) (r : Row A) (z : Asking A) → left_first m p q ≡ false → Leads T G (part m (and p q) r) z → P z
      → P (part m q r) ⊎ ((a : Row A) × (In a (possible T G q) × (compatible T r a ≡ true)) × P (part (bit_or m (sure_mask q)) p (merge r a)))
  after_right_side m p q r z e (to_left_side d) h = clash d e
  after_right_side m p q r z e (from_left_side d a i j) h = clash d e
  after_right_side m p q r z e (to_right_side d) h = inl h
  after_right_side m p q r z e (from_right_side d a i j) h = inr (a, (i, j), h)

  pub after_union : (m : ℕ) (p q : Pattern A ℕ) (r : Row A) (z : Asking A) → Leads T G (part m (union p q) r) z → P z → P (part m p r) ⊎ P (part m q r)
  after_union m p q r z to_left_union h = inl h
  after_union m p q r z to_right_union h = inr h

  pub after_opt : (m : ℕ) (p q : Pattern A ℕ) (r : Row A) (z : Asking A) → Leads T G (part m (opt p q) r) z → P z
      → P (part m p r) ⊎ ((a : Row A) × (In a (possible T G p) × (compatible T r a ≡ true)) × P (part (sure_mask p) q a))
  after_opt m p q r z to_outside h = inl h
  after_opt m p q r z (to_option a i j) h = inr (a, (i, j), h)

-- ---- reading happens only at an IRI or negated line

module _ {A : Type 0} where
  pub reads_link : (l r : Bool) (u a : A) (y : Option A) (i : A) → Reads (path l r (link u) (Some a) y) i → i ≡ a
  reads_link l r u a y i for_link = refl

  pub reads_negated : (l r : Bool) (us : List A) (a : A) (y : Option A) (i : A) → Reads (path l r (negated us) (Some a) y) i → i ≡ a
  reads_negated l r us a y i for_negated = refl

  pub reads_inverse : (l r : Bool) (p : Path A) (x y : Option A) (i : A) → Reads (path l r (inverse p) x y) i → ⊥
  reads_inverse l r p x y i h = elim h [ ]

  pub reads_alternative : (l r : Bool) (p q : Path A) (x y : Option A) (i : A) → Reads (path l r (alternative p q) x y) i → ⊥
  reads_alternative l r p q x y i h = elim h [ ]

  pub reads_sequence : (l r : Bool) (p q : Path A) (x y : Option A) (i : A) → Reads (path l r (sequence p q) x y) i → ⊥
  reads_sequence l r p q x y i h = elim h [ ]

  pub reads_star : (l r : Bool) (p : Path A) (x y : Option A) (i : A) → Reads (path l r (star p) x y) i → ⊥
  reads_star l r p x y i h = elim h [ ]

  pub reads_part : (m : ℕ) (p : Pattern A ℕ) (r : Row A) (i : A) → Reads (part m p r) i → ⊥
  reads_part m p r i h = elim h [ ]

-- ---- crowds of one kind of thing and of another

module _ {B C : Type 0} (P : B → Type 0) (Q : C → Type 0) (R : B → C → Type 0) (other : (x : B) → P x → (c : C) × Q c × R x c)
    (back : (x y : B) (c : C) → R x c → R y c → x ≡ y) where
  along : (l : List B) → ((x : B) → In x l → P x) → List C
  along [] h = []
  along (x ∷ l) h = (other x (h x (inl refl))).0 ∷ along l (λ y i. h y (inr i))

  in_along : (l : List B) (h : (x : B) → In x l → P x) (c : C) → In c (along l h) → (x : B) × In x l × Q c × R x c
  unfolding along
  in_along [] h c i = elim i [ ]
  in_along (x ∷ l) h c (inl i) = let r = other x (h x (inl refl)) in (x, inl refl, subst Q (sym i) r.1, subst (R x) (sym i) r.2)
  in_along (x ∷ l) h c (inr i) = let r = in_along l (λ y j. h y (inr j)) c i in (r.0, inr r.1, r.2, r.3)

  along_apart : (l : List B) (h : (x : B) → In x l → P x) → Apart l → Apart (along l h)
  unfolding along
  along_apart [] h a = tt
  along_apart (x ∷ l) h a = (
    (λ i. let r = in_along l (λ y j. h y (inr j)) (other x (h x (inl refl))).0 i in
        a.0 (subst (λ z. In z l) (sym (back x r.0 (other x (h x (inl refl))).0 (other x (h x (inl refl))).2 r.3)) r.1)),
    along_apart l (λ y j. h y (inr j)) a.1,
  )

  along_length : (l : List B) (h : (x : B) → In x l → P x) → length (along l h) ≡ length l
  unfolding along
  along_length [] h = refl
  along_length (x ∷ l) h = ap suc (along_length l (λ y j. h y (inr j)))

  pub crowd_along : Crowd P → Crowd Q
  crowd_along k = record {
    members = along k.members k.each;
    apart = along_apart k.members k.each k.apart;
    many = (let e = along_length k.members k.each in let m = k.many in omega (arith, e, m));
    each = λ c i. (in_along k.members k.each c i).2;
  }
