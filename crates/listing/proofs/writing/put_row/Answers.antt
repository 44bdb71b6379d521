use Rattle.std.proofs.Common.{ℕ, decimal, [], ◌∷◌, ◌++◌, length, map, take, sym, ap, ◌∙◌}
use Rattle.std.proofs.lemmas.List.{length-map}
use Rattle.lexicon.specs.Held.{held}
use Rattle.listing.specs.Named.{bytes_of}
use Rattle.listing.specs.Text.{line, place_text}
use Rattle.listing.proofs.Laying.{then, puts_as, line_is}
use Rattle.listing.proofs.writing.put_row.Goals as goal

pub returns : goal.returns
returns c =
    let e = c.args.entry.now in
    let names = c.as_slice-count.result.now in
    let texts = λ (k : ℕ). map (place_text (held c.args.terms.now)) (take k e.row.places) in
    let count = sym (length-map names bytes_of) ∙ ap length c.as_slice-count.ensures.names in
    puts_as (line_is (texts (length names)) (decimal e.weight) ∙ ap (λ (k : ℕ). line (texts k ++ decimal e.weight ∷ [])) count)
    (then c.put_places-at.ensures (then c.put_number-at.ensures c.put.ensures))
