use Rattle.std.proofs.Common.{◌++◌, map, take, codes, sym, ap, ◌∙◌, append_assoc, append-nil, arith}
use Rattle.std.specs.List.{flat_map}
use Rattle.std.proofs.lemmas.List.{take_all}
use Rattle.std.proofs.lemmas.List.Folds.{flat_map-map}
use Rattle.lexicon.specs.Held.{held}
use Rattle.tables.specs.declared.entry.Entry.{Entry}
use Rattle.listing.specs.Named.{named}
use Rattle.listing.specs.Text.{heading, line, name_text, row_parts}
use Rattle.listing.specs.Written.{tabbed}
use Rattle.listing.proofs.Laying.{then, puts_as, item_more, line_is}
use Rattle.listing.proofs.writing.put_list.Goals as goal

pub loop-entry-init : goal.loop-entry-init
loop-entry-init c =
    let names = map name_text (named c.args.names.now) in
    let texts = puts_as (ap (λ l. flat_map tabbed (map name_text l)) c.as_slice.ensures.names) c.put_names-at.ensures in
    puts_as (line_is names (codes "weight") ∙ sym (append-nil (line (heading (named c.args.names.now))))) (then texts c.put-behind.ensures)

pub loop-entry-preserved : goal.loop-entry-preserved
loop-entry-preserved c =
    let first = line (heading (named c.args.names.now)) in
    let f = λ (e : Entry). line (row_parts (named c.args.names.now) (held c.args.terms.now) e) in
    let rows = c.args.rows.now in
    let i = c.loop-entry.entry-index in
    let item = ap (λ (e : Entry). flat_map f (take i rows) ++ f e) c.entry-item.is ∙ item_more f rows i c.entry-item.result c.loop-entry-test.true in
    puts_as (append_assoc first (flat_map f (take i rows)) (f c.entry-item.result) ∙ ap (λ l. first ++ l) item) (then c.loop-entry.invariant c.put_row-behind.ensures)

pub returns : goal.returns
returns c =
    let first = line (heading (named c.args.names.now)) in
    let f = row_parts (named c.args.names.now) (held c.args.terms.now) in
    let rows = c.args.rows.now in
    let all = ap (flat_map (λ (e : Entry). line (f e))) (take_all c.loop-entry.entry-index rows (omega arith)) in
    puts_as (ap (λ l. first ++ l) (all ∙ sym (flat_map-map line f rows))) c.loop-entry.invariant
