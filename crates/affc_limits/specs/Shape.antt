-- One pass over the tokens for the limits on their shape.
use Rattle.std.specs.Prelude.{ℕ, ◌<◌, ◌^◌, nat_lt, List, ◌++◌, Option, Some, None, if◌then◌else◌}
use Rattle.affc_grammar.specs.declared.fault.LimitName.{LimitName}
use Rattle.affc_grammar.specs.declared.fault.LimitName.TheVariants.{Tokens, Run, Depth, Items}
use Rattle.affc_grammar.specs.Grammar.{Symbol}
use Rattle.affc_grammar.specs.Limits.{Limits, Passed, passed_at, tokens_past, count_token, count_run, count_open, count_item}
use Rattle.affc_limits.specs.declared.shape.Counts.{Counts}

abbrev pub counts_of : Limits → Counts
counts_of limits = record { tokens = limits.tokens; run = limits.run; brackets = limits.depth; items = limits.items }

abbrev pub AreSmall : Counts → Type 0
AreSmall counts = (counts.tokens < 2 ^ 63) × (counts.run < 2 ^ 63) × (counts.brackets < 2 ^ 63) × (counts.items < 2 ^ 63)

abbrev pub counts_behind : Counts → Symbol → Counts
counts_behind counts s = record { tokens = count_token counts.tokens s; run = count_run counts.run s; brackets = count_open counts.brackets s; items = count_item counts.items s }

abbrev pub first_above : Counts → Counts → Option LimitName
first_above limits counts =
    if nat_lt limits.tokens counts.tokens then Some Tokens
    else (if nat_lt limits.run counts.run then Some Run
    else (if nat_lt limits.brackets counts.brackets then Some Depth
    else (if nat_lt limits.items counts.items then Some Items else None)))

-- the limits that are passed from the token of this number on, behind which so much is counted
abbrev pub passed_from : Counts → (at : ℕ) → Counts → List Symbol → List Passed
passed_from limits at counts ss =
    passed_at Tokens (tokens_past count_token limits.tokens at counts.tokens ss)
    ++ passed_at Run (tokens_past count_run limits.run at counts.run ss)
    ++ passed_at Depth (tokens_past count_open limits.brackets at counts.brackets ss)
    ++ passed_at Items (tokens_past count_item limits.items at counts.items ss)

-- behind no token
abbrev pub nothing : Counts
nothing = record { tokens = 0; run = 0; brackets = 0; items = 0 }
