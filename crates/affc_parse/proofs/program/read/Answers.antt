use Rattle.std.proofs.Common.{map}
use Rattle.affc_lex.specs.Lexes.{lexemes}
use Rattle.affc_syntax.specs.draft.Symbols.{seen}
use Rattle.affc_grammar.specs.Limits.{limits_of}
use Rattle.affc_parse.proofs.Joined.{shape_right, shape_wrong, limits_same, room_is_enough}
use Rattle.affc_parse.proofs.program.read.Goals as goal

pub draft_of-requires-clause-shape : goal.draft_of-requires-clause-shape
draft_of-requires-clause-shape c = shape_right c.args.text.now (lexemes c.args.text.now c.args.tokens.now) (map seen c.args.symbols.now) c.has_prelude-prelude.result c.requires.its_tokens c.requires.its_symbols c.has_prelude-prelude.ensures c.in-None.ensures

pub draft_of-requires-clause-enough : goal.draft_of-requires-clause-enough
draft_of-requires-clause-enough c = room_is_enough (map seen c.args.symbols.now) (limits_of c.has_prelude-prelude.result) c.room.result c.in-None.ensures c.room.ensures

pub tree_of-requires-clause-shape : goal.tree_of-requires-clause-shape
tree_of-requires-clause-shape c = shape_right c.args.text.now (lexemes c.args.text.now c.args.tokens.now) (map seen c.args.symbols.now) c.has_prelude-prelude.result c.requires.its_tokens c.requires.its_symbols c.has_prelude-prelude.ensures c.in-None.ensures

pub tree_of-requires-clause-limits : goal.tree_of-requires-clause-limits
tree_of-requires-clause-limits c = limits_same (lexemes c.args.text.now c.args.tokens.now) (map seen c.args.symbols.now) c.has_prelude-prelude.result c.requires.its_symbols c.has_prelude-prelude.ensures

pub returns-in-Some : goal.returns-in-Some
returns-in-Some c =
    shape_wrong c.args.text.now (lexemes c.args.text.now c.args.tokens.now) (map seen c.args.symbols.now) c.has_prelude-prelude.result c.in-Some.passed c.place_of.result c.requires.its_tokens c.requires.its_symbols c.has_prelude-prelude.ensures c.in-Some.ensures c.place_of.ensures
