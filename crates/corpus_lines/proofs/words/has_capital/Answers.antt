use Rattle.std.proofs.Common.{rules, ◌≡◌, ℕ, List, [], ◌∷◌, Bool, true, false, ◌||◌, refl, ◌∙◌}
use Rattle.std.specs.List.{fold, list_any}
use Rattle.std.specs.Char.{is_ascii_uppercase}
use Rattle.std.proofs.lemmas.Iterator.{YieldsList-from_slice}
use Rattle.std.proofs.lemmas.Iterator.Consumers.{fold_from_yields_List}
use Rattle.corpus_lines.proofs.words.has_capital.Goals as goal

any_of : (found : Bool) (word : List ℕ) → fold (λ (a : Bool) (b : ℕ). a || is_ascii_uppercase b) found word ≡ (found || list_any is_ascii_uppercase word)
any_of true [] = refl
any_of false [] = refl
any_of true (b ∷ rest) = any_of true rest
any_of false (b ∷ rest) = any_of (is_ascii_uppercase b) rest

pub returns : goal.returns
returns c =
    fold_from_yields_List _ (λ (a : Bool) (b : ℕ). a || is_ascii_uppercase b) false c.fold.result c.fold.ensures.ran (YieldsList-from_slice c.args.word.now cc) (λ a x b q k. search rules)
    ∙ any_of false c.args.word.now
