-- A command as the code has it.
use Rattle.std.specs.Prelude.{option_map}
use Rattle.affc_words.specs.Command as spec
use Rattle.affc_words.specs.declared.words.Command.{Command}
use Rattle.affc_words.specs.declared.words.Command.TheVariants.{Fold, Replay, Run, Flow, Big}

abbrev pub seen : Command → spec.Command
seen (Fold source schedule settings certificate) = spec.Fold source.now (option_map (λ s. s.now) schedule) settings (option_map (λ s. s.now) certificate)
seen (Replay source schedule certificate) = spec.Replay source.now schedule.now certificate.now
seen (Run source feed steps) = spec.Run source.now feed.now steps
seen (Flow source) = spec.Flow source.now
seen (Big stages) = spec.Big stages.count
