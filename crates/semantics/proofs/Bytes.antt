-- Terms and names by their bytes: the tests tell equal ones.
use Rattle.std.proofs.Common.{◌≡◌, ℕ, true, false, eqb, List, [], ◌∷◌, refl, ap₂, arith}
use Rattle.std.proofs.lemmas.Bool.{and_parts, and_from}
use Rattle.terms.specs.declared.kind.Kind.{Kind}
use Rattle.terms.specs.declared.kind.Kind.TheVariants.{Iri, Literal}
use Rattle.terms.specs.Terms.{Term}
use Rattle.tokens.specs.Lexed.{same_bytes}
use Rattle.semantics.specs.Terms.{Exact}
use Rattle.semantics.specs.Webs.{same_kind, by_bytes}
use Rattle.semantics.proofs.Lists.{clash}

pub eqb_tells : (a b : ℕ) → eqb a b ≡ true → a ≡ b
eqb_tells a b e = grind arith

pub eqb_told : (a : ℕ) → eqb a a ≡ true
eqb_told a = grind arith

pub eqb_apart : (a b : ℕ) → (a ≡ b → ⊥) → eqb a b ≡ false
eqb_apart a b h = grind arith

pub bytes_tell : (a b : List ℕ) → same_bytes a b ≡ true → a ≡ b
bytes_tell [] [] h = refl
bytes_tell [] (y ∷ b) h = clash h refl
bytes_tell (u ∷ a) [] h = clash h refl
bytes_tell (u ∷ a) (v ∷ b) h =
    let p = and_parts (eqb u v) (same_bytes a b) h in
    ap₂ ◌∷◌ (eqb_tells u v p.0) (bytes_tell a b p.1)

pub bytes_told : (a : List ℕ) → same_bytes a a ≡ true
bytes_told [] = refl
bytes_told (u ∷ a) = and_from (eqb u u) (same_bytes a a) (eqb_told u) (bytes_told a)

kind_tells : (a b : Kind) → same_kind a b ≡ true → a ≡ b
kind_tells Iri Iri h = refl
kind_tells Iri Literal h = clash h refl
kind_tells Literal Iri h = clash h refl
kind_tells Literal Literal h = refl

kind_told : (a : Kind) → same_kind a a ≡ true
kind_told Iri = refl
kind_told Literal = refl

pub by_bytes_exact : Exact by_bytes
by_bytes_exact = record {
  tells = λ a b h. both a b (and_parts (same_kind a.kind b.kind) (same_bytes a.bytes b.bytes) h);
  told = λ a. and_from (same_kind a.kind a.kind) (same_bytes a.bytes a.bytes) (kind_told a.kind) (bytes_told a.bytes);
}
  where
    both : (a b : Term) → (same_kind a.kind b.kind ≡ true) × (same_bytes a.bytes b.bytes ≡ true) → a ≡ b
    both a b h = ap₂ {C = Term} (λ k l. record { kind = k; bytes = l }) (kind_tells a.kind b.kind h.0) (bytes_tell a.bytes b.bytes h.1)
