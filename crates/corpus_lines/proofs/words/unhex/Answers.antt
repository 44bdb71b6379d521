use Rattle.std.proofs.Common.{◌≡◌, ◌⊎◌, ℕ, List, Ok, Err, Bool, true, false, sym, ap, ◌∙◌, inl, inr}
use Rattle.hex.specs.declared.error.FromHexError.{FromHexError}
use Rattle.hex.specs.declared.error.FromHexError.TheVariants.{OutOfMemory}
use Rattle.hex.specs.Hex.{IsBytes, decode_of, encode_lower}
use Rattle.hex.proofs.HexLemmas.{decode_of-encode_lower}
use Rattle.corpus_lines.proofs.Digits.{has_capital, has_capital-encode_lower, spelled}
use Rattle.corpus_lines.proofs.words.unhex.Goals as goal

-- what some bytes spell decodes to them
decoded : (word bytes : List ℕ) → IsBytes bytes → word ≡ encode_lower bytes → decode_of word ≡ Ok bytes
decoded word bytes h e = ap decode_of e ∙ decode_of-encode_lower bytes h

not_both : (b : Bool) → b ≡ true → b ≡ false → ⊥
not_both b e f = cc

not_refused : (word bytes : List ℕ) (r : FromHexError) → decode_of word ≡ Ok bytes → (r ≡ OutOfMemory → ⊥) → (r ≡ OutOfMemory) ⊎ (decode_of word ≡ Err r) → ⊥
not_refused word bytes r e f (inl m) = f m
not_refused word bytes r e f (inr m) = cc

pub returns-in_default : goal.returns-in_default
returns-in_default c = λ bytes h e. not_refused c.args.word.now bytes c.in-Err.refused (decoded c.args.word.now bytes h e) c.in_default.not-OutOfMemory c.in-Err.ensures.err

pub returns-then-has_capital : goal.returns-then-has_capital
returns-then-has_capital c = λ bytes h e.
    not_both c.has_capital.result c.if-has_capital.true (c.has_capital.ensures ∙ ap has_capital e ∙ has_capital-encode_lower bytes h)

pub returns-in-Ok : goal.returns-in-Ok
returns-in-Ok c = spelled c.args.word.now c.in-Ok.bytes.items (sym c.has_capital.ensures ∙ c.if-has_capital.false) c.in-Ok.ensures.ok
