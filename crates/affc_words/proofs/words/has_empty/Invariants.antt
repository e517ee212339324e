-- What is left decides.
use Rattle.std.proofs.Common.{◌≡◌}
use Rattle.std.specs.Prelude.{drop}
use Rattle.std.specs.List.{list_any}
use Rattle.affc_words.specs.Command.{is_empty, texts_of}
use Rattle.affc_words.proofs.words.has_empty.Given as goal

abbrev pub invariant-loop-word : goal.invariant-loop-word
invariant-loop-word l = list_any is_empty (texts_of (drop l.word-index l.words)) ≡ list_any is_empty (texts_of l.words)
