use Rattle.tokens.proofs.Pieced.{word_fits, word_read}
use Rattle.tokens.proofs.lexer.Place.word.Goals as goal

pub slice_bounds-keyword-end : goal.slice_bounds-keyword-end
slice_bounds-keyword-end c = word_fits c.args.self.text.now c.args.self.start c.run_end-end.result c.run_end-end.ensures c.args.self.inside

pub returns : goal.returns
returns c = word_read c.args.self.text.now c.args.self.start c.run_end-end.result c.keyword.result c.run_end-end.ensures c.args.self.inside c.requires c.keyword.ensures
