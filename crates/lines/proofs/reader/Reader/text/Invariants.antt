use Rattle.std.proofs.Common.{◌≡◌, drop}
use Rattle.lines.specs.Readings.{behind}
use Rattle.lines.proofs.reader.Reader.text.Given as goal

abbrev pub invariant-loop-b : goal.invariant-loop-b
invariant-loop-b l =
    (behind l.text l.self.rest.now ≡ behind (drop l.b-index l.text) l.reader.rest.now) × (l.reader.line ≡ l.self.line)
