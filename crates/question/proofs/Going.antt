-- From one state of the reader to the next, and how a fault in a part is a fault of the whole.
use Rattle.std.proofs.Common.{◌≡◌, ◌≤◌, List, [], ◌∷◌, ◌++◌, sym, refl, ap, ◌∙◌, subst, append_assoc, append-nil, arith}
use mathlib.Core.List.{map-append}
use Rattle.tokens.specs.Words.{Word}
use Rattle.tokens.specs.Lexed.{Spot}
use Rattle.grammar.specs.declared.refusal.Fault.{Fault}
use Rattle.grammar.specs.Grammar.{Kind}
use Rattle.grammar.specs.Limits.{Seen, after, gather, Clear}
use Rattle.grammar.specs.Reading.{words}
use Rattle.grammar.specs.Machine.{Symbol, a, parts, lead}
use Rattle.grammar.proofs.Moves.{reach_stay, reach_then, reach_open}
use Rattle.question.specs.Views.{View, Passes, Grows, Kept, Went, Stopped, Failed, Idle}

pub words-++ : (u v : List Spot) → words (u ++ v) ≡ words u ++ words v
words-++ u v = map-append (λ s. s.word) u v

pub gather-++ : (s : Seen) (u v : List Word) → gather s (u ++ v) ≡ gather (gather s u) v
gather-++ s [] v = refl
gather-++ s (x ∷ u) v = gather-++ (after s x) u v

pub clear-++ : (s : Seen) (u v : List Word) → Clear s u → Clear (gather s u) v → Clear s (u ++ v)
clear-++ s [] v c d = d
clear-++ s (x ∷ u) v c d = (c.0, clear-++ (after s x) u v c.1 d)

-- ---- limits

pub passes_stay : (p : View) → Passes p p
passes_stay p = record { passed = []; split = refl; clear = tt; gathers = refl }

module _ {p q : View} (g : Passes p q) where
  pub gathers_on : (v : List Spot) → gather p.seen (words (g.passed ++ v)) ≡ gather q.seen (words v)
  gathers_on v =
      ap (gather p.seen) (words-++ g.passed v) ∙ gather-++ p.seen (words g.passed) (words v) ∙ ap (λ s. gather s (words v)) g.gathers

  pub clear_on : (v : List Spot) → Clear q.seen (words v) → Clear p.seen (words (g.passed ++ v))
  clear_on v h =
      subst (Clear p.seen) (sym (words-++ g.passed v))
      (clear-++ p.seen (words g.passed) (words v) g.clear (subst (λ s. Clear s (words v)) (sym g.gathers) h))

  split_on : (z v : List Spot) → q.spots ≡ v ++ z → p.spots ≡ (g.passed ++ v) ++ z
  split_on z v e = g.split ∙ ap (λ l. g.passed ++ l) e ∙ sym (append_assoc g.passed v z)

pub passes_then : {p q r : View} → Passes p q → Passes q r → Passes p r
passes_then {p} {q} {r} g h = record {
  passed = g.passed ++ h.passed;
  split = split_on g r.spots h.passed h.split;
  clear = clear_on g h.passed h.clear;
  gathers = gathers_on g h.passed ∙ h.gathers;
}

-- ---- what is kept

pub grows_stay : {X : Type 0} (xs : List X) → Grows xs xs
grows_stay xs = ([], sym (append-nil xs))

pub grows_then : {X : Type 0} (xs ys zs : List X) → Grows xs ys → Grows ys zs → Grows xs zs
grows_then xs ys zs g h = (g.0 ++ h.0, h.1 ∙ ap (λ l. l ++ h.0) g.1 ∙ append_assoc xs g.0 h.0)

pub kept_stay : (p : View) → Kept p p
kept_stay p = record { free = λ f. f; paths = λ f. grows_stay p.paths; patterns = λ f. grows_stay p.patterns; forward = omega arith }

pub kept_then : {p q r : View} → Kept p q → Kept q r → Kept p r
kept_then {p} {q} {r} k l = record {
  free = λ f. k.free (l.free f);
  paths = λ f. grows_then p.paths q.paths r.paths (k.paths (l.free f)) (l.paths f);
  patterns = λ f. grows_then p.patterns q.patterns r.patterns (k.patterns (l.free f)) (l.patterns f);
  forward = omega (arith, k.forward, l.forward);
}

pub kept_idle : {p q : View} → Idle p q → p.start ≤ q.start → Kept p q
kept_idle {p} {q} i h = record {
  free = λ f. sym i.full ∙ f;
  paths = λ f. ([], i.paths ∙ sym (append-nil p.paths));
  patterns = λ f. ([], i.patterns ∙ sym (append-nil p.patterns));
  forward = h;
}

pub idle_stay : (p : View) → Idle p p
idle_stay p = record { paths = refl; patterns = refl; count = refl; full = refl }

pub idle_then : {p q r : View} → Idle p q → Idle q r → Idle p r
idle_then i j = record { paths = j.paths ∙ i.paths; patterns = j.patterns ∙ i.patterns; count = j.count ∙ i.count; full = j.full ∙ i.full }

-- ---- symbols

pub went_stay : (σ : List Symbol) (p : View) → Went σ σ p p
went_stay σ p = record { reach = λ ρ. reach_stay; passes = passes_stay p; kept = kept_stay p }

pub went_then : {σ τ υ : List Symbol} {p q r : View} → Went σ τ p q → Went τ υ q r → Went σ υ p r
went_then g h = record { reach = λ ρ. reach_then (g.reach ρ) (h.reach ρ); passes = passes_then g.passes h.passes; kept = kept_then g.kept h.kept }

-- one symbol was read, and others are still to come
pub went_on : {σ : List Symbol} {x : Symbol} {τ : List Symbol} {p q r : View} → Went σ (x ∷ τ) p q → Went (x ∷ []) [] q r → Went σ τ p r
went_on {σ} {x} {τ} g h = went_then g (record { reach = λ ρ. h.reach (τ ++ ρ); passes = h.passes; kept = h.kept })

-- a kind by its parts
pub went_open : (k : Kind) (ps : List Symbol) (p : View) → parts k (lead (words p.spots)) ≡ ps → Went (a k ∷ []) ps p p
went_open k ps p e = record { reach = λ ρ. reach_open k ps e reach_stay; passes = passes_stay p; kept = kept_stay p }

-- a kind among others by its parts
pub went_into : {σ : List Symbol} {p q : View} (k : Kind) (ps : List Symbol) → Went σ (a k ∷ []) p q → parts k (lead (words q.spots)) ≡ ps → Went σ ps p q
went_into {σ} {p} {q} k ps g e = went_then g (went_open k ps q e)

-- the part that was to be read failed, and so did the whole
pub failed_in : {y x : Symbol} {ρ : List Symbol} {p q : View} {f : Fault} → Went (y ∷ []) (x ∷ ρ) p q → Failed x q f → Failed y p f
failed_in {y} {x} {ρ} {p} {q} {f} g h = record {
  passed = g.passes.passed ++ h.passed;
  here = h.here;
  behind = h.behind;
  split = split_on g.passes (h.here ∷ h.behind) h.passed h.split;
  place = h.place;
  clear = clear_on g.passes h.passed h.clear;
  stops = λ υ. let s = h.stops (ρ ++ υ) in
      subst (λ s. Stopped (y ∷ υ) (words p.spots) h.here.word (words h.behind) s f.reason) (sym (gathers_on g.passes h.passed))
      (record { waits = s.waits; below = s.below; reach = reach_then (g.reach υ) s.reach; because = s.because });
}
