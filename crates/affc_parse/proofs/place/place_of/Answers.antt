use Rattle.std.proofs.Common.{length, ap, ◌∙◌}
use Rattle.affc_parse.proofs.Places.{start_or, place_got}
use Rattle.affc_parse.proofs.place.place_of.Goals as goal

pub returns-in-Some : goal.returns-in-Some
returns-in-Some c = ap (start_or (length c.args.text.now)) c.in-Some.ensures ∙ place_got c.args.text.now c.args.tokens.now c.args.at

pub returns-in-None : goal.returns-in-None
returns-in-None c = ap (start_or (length c.args.text.now)) c.in-None.ensures ∙ place_got c.args.text.now c.args.tokens.now c.args.at
