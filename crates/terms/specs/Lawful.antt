-- Which bytes are an IRI or a literal, and which terms may occur. The limits are in bytes.
use Rattle.std.specs.Prelude.{ℕ, Bool, ◌&&◌, List, length, nat_le}
use Rattle.std.specs.List.{list_all}
use Rattle.terms.specs.Bytes.{iri_byte, literal_byte}
use Rattle.terms.specs.Terms.{Term}
use Rattle.terms.specs.declared.kind.Kind.{Kind}
use Rattle.terms.specs.declared.kind.Kind.TheVariants.{Iri, Literal}

-- an IRI has 1 to 128 bytes, a literal 0 to 128
abbrev pub fitting : Kind → ℕ → Bool
fitting Iri n = nat_le 1 n && nat_le n 128
fitting Literal n = nat_le n 128

abbrev pub is_iri : List ℕ → Bool
is_iri x = fitting Iri (length x) && list_all iri_byte x

abbrev pub is_literal : List ℕ → Bool
is_literal x = fitting Literal (length x) && list_all literal_byte x

abbrev pub lawful_bytes : Kind → List ℕ → Bool
lawful_bytes Iri x = is_iri x
lawful_bytes Literal x = is_literal x

abbrev pub lawful : Term → Bool
lawful t = lawful_bytes t.kind t.bytes

-- the number that tells a term's kind
abbrev pub kind_number : Kind → ℕ
kind_number Iri = 1
kind_number Literal = 2
