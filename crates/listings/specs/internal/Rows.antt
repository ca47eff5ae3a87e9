-- The columns of the code, as a row.
use Rattle.listings.specs.{declared.columns.Columns.Columns, Columns.Row}

abbrev pub row_in : Columns → Row
row_in c = record { first = c.first.now; second = c.second.now; third = c.third.now; fourth = c.fourth.now }
