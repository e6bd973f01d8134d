-- The ranges that the fields keep to where every check of reading holds.
use Rattle.std.specs.Prelude.{◌≤◌}
use Rattle.amounts.specs.Floor.{Under}
use Rattle.exchange.specs.declared.Exchange.{Exchange}

pub record Sound (e : Exchange) : Type 0 where
  pub product_high : e.product ≤ 3
  pub period_high : e.period ≤ 2980
  pub importer_low : 1 ≤ e.importer
  pub importer_high : e.importer ≤ 32
  pub exporter_low : 1 ≤ e.exporter
  pub exporter_high : e.exporter ≤ 32
  pub volume_high : e.volume ≤ 1000000
  pub importing_fair : Under 9999999 e.importing
  pub exporting_fair : Under 9999999 e.exporting
  pub percentage_high : e.percentage ≤ 100
