use Rattle.std.proofs.Common.{refl, sym, ap, ◌∙◌, subst, Vec, Global}
use Rattle.affc_lex.specs.declared.token.Token.{Token}
use Rattle.affc_lex.specs.Cutting.{TokensOf}
use Rattle.affc_lex.specs.declared.piece.Found.TheVariants.{Bad, Open, Long}
use Rattle.affc_lex.proofs.Cuts.{cut_turn, cut_fault, cut_ended, cut_line_ended}
use Rattle.affc_lex.proofs.cut.all_tokens.Goals as goal
use Rattle.affc_lex.proofs.cut.all_tokens.Goals.{then-is_on_directive+in_ok-add, else-is_on_directive}

pub loop-at-preserved : goal.loop-at-preserved
loop-at-preserved c =
    let a = c.next_spot-spot.ensures in
    let b = c.in_ok-add-in-Piece.ensures in
    let d = c.in-Piece.ensures.found in
    cut_turn c.args.text.now c.loop-at.at c.loop-at.spot c.loop-at.tokens.items c.in-Piece.what c.in-Piece.length c.next_spot-spot.result c.add.new.tokens.items c.loop-at.invariant d a b

pub returns-in-Bad : goal.returns-in-Bad
returns-in-Bad c = cut_fault c.args.text.now c.loop-at.at c.loop-at.spot c.loop-at.tokens.items (Bad c.in-Bad.length) c.loop-at.invariant c.loop-at-test.true c.in-Bad.ensures.value refl

pub returns-in-Open : goal.returns-in-Open
returns-in-Open c = cut_fault c.args.text.now c.loop-at.at c.loop-at.spot c.loop-at.tokens.items Open c.loop-at.invariant c.loop-at-test.true c.in-Open.ensures.value refl

pub returns-in-Long : goal.returns-in-Long
returns-in-Long c = cut_fault c.args.text.now c.loop-at.at c.loop-at.spot c.loop-at.tokens.items Long c.loop-at.invariant c.loop-at-test.true c.in-Long.ensures.value refl

pub returns : goal.returns
returns c =
    let text = c.args.text.now in
    let l = c.loop-at in
    elim c.if-is_on_directive.branch [
      | then-is_on_directive+in_ok-add w ↦
          let items = ap (λ (v : Vec Token Global). v.items) w.tokens-is ∙ w.in_ok-add.ensures in
          subst (TokensOf text) (sym items) (cut_line_ended text l.at l.spot l.tokens.items l.invariant c.loop-at-test.false (sym w.if-is_on_directive.ensures))
      | else-is_on_directive w ↦
          let items = ap (λ (v : Vec Token Global). v.items) w.tokens-is in
          subst (TokensOf text) (sym items) (cut_ended text l.at l.spot l.tokens.items l.invariant c.loop-at-test.false (sym w.if-is_on_directive.ensures))
    ]
