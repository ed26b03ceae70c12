-- The printed text of how late trains can be.
use Rattle.std.specs.Prelude.{ℕ, List, ◌++◌, length, codes, decimal}
use Rattle.std.specs.List.{flat_map}
use Rattle.shunt_instance.specs.defs.Words.{train_at}
use Rattle.shunt_instance.specs.defs.Instance.{Night}
use Rattle.shunt_delay.specs.declared.records.Delay.{Delay}
use Rattle.shunt_delay.specs.declared.records.Stop.{Stop}
use Rattle.shunt_delay.specs.declared.records.Stop.TheVariants.{Limit, TooSoon, Crossing, TooLong}
use Rattle.shunt_report.specs.defs.FindingTexts.{two_numbers}

-- `limit`, `too-soon ID`, `crossing ID ID` or `too-long ID LOAD`
abbrev pub stop_words : Stop → List ℕ
stop_words Limit = codes "limit"
stop_words (TooSoon id) = codes "too-soon " ++ decimal id
stop_words (Crossing b c) = codes "crossing " ++ two_numbers b c
stop_words (TooLong id load) = codes "too-long " ++ two_numbers id load

-- `delay TRAIN D` and what stops the train
abbrev pub delay_line : Night → Delay → List ℕ
delay_line night d = codes "delay " ++ (train_at night.arrive d.train.0).name ++ codes " " ++ decimal d.minutes ++ codes " " ++ stop_words d.stop ++ codes "\n"

-- a line for each delay, and `delays NUMBER`
unfoldable pub delays_of : Night → List Delay → List ℕ
delays_of night delays = flat_map (delay_line night) delays ++ codes "delays " ++ decimal (length delays) ++ codes "\n"
