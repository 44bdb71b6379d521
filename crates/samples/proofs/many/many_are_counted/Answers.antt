use Rattle.samples.proofs.Counted.{objects_are_counted, closure_is_counted, middle_terms_are_counted, own_rows_are_counted}
use Rattle.samples.proofs.many.many_are_counted.Goals as goal

pub returns : goal.returns
returns c = record { objects = objects_are_counted; closure = closure_is_counted; middle = middle_terms_are_counted; own = own_rows_are_counted }
