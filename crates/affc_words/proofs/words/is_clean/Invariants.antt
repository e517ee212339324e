-- What is left decides.
use Rattle.std.proofs.Common.{◌≡◌}
use Rattle.std.specs.Prelude.{drop}
use Rattle.affc_words.specs.Command.{texts_of}
use Rattle.affc_words.specs.Parsed.{is_clean}
use Rattle.affc_words.proofs.words.is_clean.Given as goal

abbrev pub invariant-loop-word : goal.invariant-loop-word
invariant-loop-word l = is_clean (texts_of (drop l.word-index l.words)) ≡ is_clean (texts_of l.words)
