-- The commonest items as steps: what `take_item` answers of them. Assumes nothing.
use Rattle.std.specs.Prelude.{ℕ, ◌+◌, List, take, drop, Some}
use Rattle.wire.specs.Laid.{laid}
use Rattle.format.specs.declared.Point.{Point}
use Rattle.format.specs.declared.Setting.{Setting}
use Rattle.format.specs.declared.Leg.{Leg}
use Rattle.format.specs.declared.Station.{Station}
use Rattle.format.specs.declared.Section.{Section}
use Rattle.format.specs.declared.Fields.TheVariants.{Leg as LegFields, Station as StationFields, Section as SectionFields}
use Rattle.item.specs.declared.Step.{Step}
use Rattle.item.specs.declared.Step.TheVariants.{On, Made}

-- the setting with another position
abbrev pub moved_to : Setting → Point → Setting
moved_to setting p = record { style = setting.style; date = setting.date; position = Some p }

-- the label's buffer b after an item at the front of s that kept so many bytes of the label: what stands behind the label is free
abbrev pub extended : List ℕ → ℕ → List ℕ → List ℕ
extended b keep s = laid b keep (take 16 (drop 2 s))

abbrev pub leg_step : ℕ → ℕ → ℕ → Setting → Leg → Step
leg_step keep add size setting g = Made size (keep + add) (moved_to setting g.to) (LegFields g.flags g.style g.date g.from g.to) keep

abbrev pub station_step : ℕ → ℕ → ℕ → Setting → Station → Step
station_step keep add size setting g = Made size (keep + add) setting (StationFields g) keep

abbrev pub section_step : ℕ → ℕ → ℕ → Setting → Section → Step
section_step keep add size setting g = Made size (keep + add) setting (SectionFields g.last 0 g.date g.size) keep

abbrev pub move_step : ℕ → Setting → Point → Step
move_step len setting p = On 13 len (moved_to setting p)

abbrev pub trim_step : ℕ → Setting → Step
trim_step keep setting = On 1 keep setting
