use Rattle.std.proofs.Common.{◌++◌, map, take, sym, ap, ◌∙◌, arith}
use Rattle.std.specs.List.{flat_map}
use Rattle.std.proofs.lemmas.List.{take_all}
use Rattle.std.proofs.lemmas.List.Folds.{flat_map-map}
use Rattle.listing.specs.declared.name.Name.{Name}
use Rattle.listing.specs.Named.{bytes_of}
use Rattle.listing.specs.Text.{name_text}
use Rattle.listing.specs.Written.{tabbed}
use Rattle.listing.proofs.Laying.{then, puts_as, item_more}
use Rattle.listing.proofs.writing.put_names.Goals as goal

pub loop-name-preserved : goal.loop-name-preserved
loop-name-preserved c =
    let names = c.args.names.now in
    let i = c.loop-name.name-index in
    let f = λ (n : Name). tabbed (name_text (bytes_of n)) in
    let name = puts_as c.as_slice.ensures c.put-behind-in-loop-name.ensures in
    puts_as (ap (λ (n : Name). flat_map f (take i names) ++ f n) c.name-item.is ∙ item_more f names i c.name-item.result c.loop-name-test.true)
    (then c.loop-name.invariant (then (then c.put-behind.ensures name) c.put-behind-in-loop-name-2.ensures))

pub returns : goal.returns
returns c =
    let names = c.args.names.now in
    let f = λ (n : Name). tabbed (name_text (bytes_of n)) in
    let all = ap (flat_map f) (take_all c.loop-name.name-index names (omega arith)) in
    puts_as (all ∙ sym (flat_map-map tabbed name_text (map bytes_of names) ∙ flat_map-map (λ x. tabbed (name_text x)) bytes_of names)) c.loop-name.invariant
