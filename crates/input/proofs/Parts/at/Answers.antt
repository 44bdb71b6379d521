use Rattle.std.proofs.Common.{rules, ℕ, ◌-◌, List, length, take, drop}
use Rattle.input.specs.Parting.{Opens}
use Rattle.input.proofs.Lines.{no_line_at}
use Rattle.input.proofs.Parts.at.Goals as goal

pub returns-in_err-pages : goal.returns-in_err-pages
returns-in_err-pages c =
    let xs = c.args.input.now in
    let none : (pages : List ℕ) → Opens (take (length xs - c.args.place) (drop c.args.place xs)) pages → ⊥ = search rules in
    search (rules, no_line_at xs c.args.place none)
