-- The bytes and records of a sheet, of a result of reading. Assumes nothing.
use Rattle.std.specs.Prelude.{ℕ, ◌+◌, length}
use Rattle.format.specs.Answers.{verdict_of}
use Rattle.format.specs.Sheet.{sheet_version, layout_all}
use Rattle.format.specs.Refusals.{Result, Verdict}
use Rattle.measure.specs.declared.Passed.{Passed}

-- why the items stop, and the bytes and records before that
pub record Total : Type 0 where
  pub verdict : Verdict
  pub bytes : ℕ
  pub records : ℕ

abbrev pub total_by : Verdict → ℕ → ℕ → Total
total_by v bytes records = record { verdict = v; bytes = bytes; records = records }

-- what the code's struct says
abbrev pub total_of : Passed → Total
total_of p = total_by (verdict_of p.verdict) p.bytes p.records

-- why a reading stopped, with so many bytes and records before its own
unfoldable pub pass_of : ℕ → ℕ → Result → Total
pass_of bytes records x = total_by x.verdict (bytes + length (layout_all sheet_version x.records)) (records + length x.records)
