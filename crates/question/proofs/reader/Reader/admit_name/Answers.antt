use Rattle.std.proofs.Common.{None, refl}
use Rattle.room.specs.Items.{items}
use Rattle.question.specs.Views.{text_of}
use Rattle.question.specs.Arena.{name_of}
use Rattle.question.proofs.Bytes.{found}
use Rattle.question.proofs.Admitting.{name_known}
use Rattle.question.proofs.reader.Reader.admit_name.Goals as goal

pub returns-in-Some : goal.returns-in-Some
returns-in-Some c =
    let r = c.args.self.now in
    let s = c.args.span in
    name_known (record { next = refl; full = refl; text = refl; paths = refl; patterns = refl; nodes = refl }) refl refl
    s _ refl (found (name_of (text_of r) s) (text_of r) (items r.built.names) _ c.in-Some.ensures)

pub add_name-requires : goal.add_name-requires
add_name-requires c =
    let r = c.args.self.now in
    found (name_of (text_of r) c.args.span) (text_of r) (items r.built.names) None c.in-None.ensures
