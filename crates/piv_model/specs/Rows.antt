-- What a row of the code's table says.
use Rattle.piv_model.specs.Objects.{ObjectRow}
use Rattle.piv_model.specs.declared.objects.Row.{Row}

abbrev pub row_of : Row → ObjectRow
row_of row = record { tag = row.tag.now; oid = row.oid.now; contact = row.contact; contactless = row.contactless }
