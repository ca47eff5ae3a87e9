-- A report as its lists, a file with its report, and when a result of the code is the link by the definition.
--
-- The code may fail for one reason that the definition does not have: memory runs out.
use Rattle.std.specs.Prelude.{◌≡◌, Result, Ok, Err, IsOk}
use Rattle.link_out.specs.{declared.linked.Report.Report, declared.linked.Linked.Linked, declared.linked.LinkFault.LinkFault}
use Rattle.link_out.specs.{declared.linked.LinkFault.TheVariants.Memory, Results.ReportNames, Results.Outcome}

abbrev pub report_names : Report → ReportNames
report_names r = record {
  multiples = r.multiples.items;
  reserved = r.reserved.items;
  entry_bad = r.entry_bad;
  undefined = r.undefined.items;
}

abbrev pub outcome_of : Linked → Outcome
outcome_of l = record { file = l.file; report = report_names l.report }

-- a result is the link of the objects; Memory is returned only if there is a file
abbrev pub IsLinkOf : Result Linked LinkFault → Result Outcome LinkFault → Type 0
IsLinkOf (Ok l) x = x ≡ Ok (outcome_of l)
IsLinkOf (Err (Memory _)) x = IsOk x
IsLinkOf (Err fault) x = x ≡ Err fault
