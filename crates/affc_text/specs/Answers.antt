-- What reading a text answers.
use Rattle.std.specs.Prelude.{◌≡◌, ◌≤◌, ℕ, List, [], length, drop, Result, Ok, Err}
use Rattle.affc_syntax.specs.draft.Drafts as drafts
use Rattle.affc_syntax.specs.declared.draft.draft.TextDraft.{TextDraft}
use Rattle.affc_grammar.specs.Grammar.{Symbol, Text}
use Rattle.affc_grammar.specs.Draft.{text_draft}
use Rattle.affc_grammar.specs.Reader.{At, Deep}
use Rattle.affc_grammar.specs.Reading.{read_text}
use Rattle.affc_syntax.specs.declared.ahead.Stop as stop
use Rattle.affc_syntax.specs.declared.ahead.Stop.TheVariants as s

-- The draft is that of the text which the symbols spell; or reading stops at a symbol, or where too many brackets are open.
abbrev pub IsRead : (room : ℕ) → List Symbol → Result TextDraft stop.Stop → Type 0
IsRead room ss (Ok t) = (c : Text) × (read_text room ss ≡ Ok (c, [])) × (drafts.text t ≡ text_draft c)
IsRead room ss (Err (s.At n)) = (read_text room ss ≡ Err (At (drop n ss))) × (n ≤ length ss)
IsRead room ss (Err s.Deep) = read_text room ss ≡ Err Deep
IsRead room ss (Err s.Memory) = Unit {0}
