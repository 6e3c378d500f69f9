-- The rows that an owned list of rows holds.
use Rattle.std.specs.Prelude.{List, take}
use Rattle.ladders.specs.declared.rows.Row.{Row}
use Rattle.ladders.specs.declared.row_list.RowList.{RowList}

abbrev pub listed : RowList → List Row
listed list = take list.count list.rows
