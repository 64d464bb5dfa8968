use Rattle.std.proofs.Common.{sym}
use Rattle.std.proofs.lemmas.List.{get_or-map}
use Rattle.piv_model.specs.Rows.{row_of}
use Rattle.piv_model.specs.Objects.{no_row}
use Rattle.piv_model.proofs.objects.row_at_place.Goals as goal

pub returns : goal.returns
returns c = sym (get_or-map row_of c.args.rows.now c.args.place _ no_row c.requires)
