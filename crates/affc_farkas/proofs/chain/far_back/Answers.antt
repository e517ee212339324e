use Rattle.std.proofs.Common.{ap}
use Rattle.affc_farkas.proofs.Chains.{far_of, twice_front}
use Rattle.affc_farkas.proofs.chain.far_back.Goals as goal

pub returns-then-first_step-second_step-clause-front : goal.returns-then-first_step-second_step-clause-front
returns-then-first_step-second_step-clause-front c =
    twice_front c.args.system.now.columns c.args.system.now.rows c.args.before.now c.in-More.far.now c.in-More-far.last.now c.requires (ap far_of c.in-More.is) (ap far_of c.in-More-far.is)
