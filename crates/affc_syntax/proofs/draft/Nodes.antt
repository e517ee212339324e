-- How large drafts are, for what goes down them.
use Rattle.std.proofs.Common.{ℕ, ◌+◌}
use Rattle.affc_grammar.specs.Draft.{IxDraft, literal, name, negated, sum, difference, product, grouped, chosen, divided, ValueDraft, load, constant, cast, complement, binary, shift}

-- how many nodes an expression has
abbrev pub nodes : IxDraft → ℕ
nodes (literal at n) = 1
nodes (name at w) = 1
nodes (negated at a) = 1 + nodes a
nodes (sum a b) = 1 + (nodes a + nodes b)
nodes (difference a b) = 1 + (nodes a + nodes b)
nodes (product at a b) = 1 + (nodes a + nodes b)
nodes (grouped at a) = 1 + nodes a
nodes (chosen at f a b) = 1 + (nodes a + nodes b)
nodes (divided at f a by_at by) = 1 + nodes a

-- how many nodes a value has, those of whole-number expressions left out
abbrev pub value_nodes : ValueDraft → ℕ
value_nodes (load at w subs) = 1
value_nodes (constant n) = 1
value_nodes (cast a) = 1
value_nodes (complement a) = 1 + value_nodes a
value_nodes (binary op a b) = 1 + (value_nodes a + value_nodes b)
value_nodes (shift left a by) = 1 + value_nodes a
