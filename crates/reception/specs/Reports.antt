-- A report of the code, as the definitions have it.
use Rattle.guards.specs.Mended.{numbers_of}
use Rattle.decoder.specs.Findings.{finding}
use Rattle.reception.specs.declared.report.BlockReport.{BlockReport}
use Rattle.reception.specs.declared.report.Report.{Report}
use Rattle.reception.specs.Given.{BlockTold, Told}

abbrev pub block_report_told : BlockReport → BlockTold
block_report_told b = record { ranges = numbers_of b.ranges; verdict = finding b.verdict; marks = b.marks }

abbrev pub report_told : Report → Told
report_told r = record { first = block_report_told r.first; second = block_report_told r.second }
