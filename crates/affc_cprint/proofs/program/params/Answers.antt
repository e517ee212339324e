use Rattle.std.proofs.Common.{◌-◌, length, take, drop, refl, arith}
use Rattle.affc_cprint.specs.Seen.{seen}
use Rattle.affc_cprint.proofs.Chains.{first_and_rest}
use Rattle.affc_cprint.proofs.Programs.{params_end, param_names_start, param_names_end}
use Rattle.affc_cprint.proofs.program.params.Goals as goal

pub loop-p-init : goal.loop-p-init
loop-p-init c =
    let rest = take (length c.args.params.now - 1) (drop 1 c.args.params.now) in
    (refl, param_names_start c.args.params.now rest c.first-item.result (seen c.args.names.now) (seen c.show_param.new.names) c.requires (first_and_rest c.args.params.now c.first-item.result c.in-len1-up.len_at_least c.first-item.is) c.in_ok-show_param-in-len1-up.ensures)

pub returns-after-loop-p : goal.returns-after-loop-p
returns-after-loop-p c =
    let rest = take (length c.args.params.now - 1) (drop 1 c.args.params.now) in (
      params_end c.args.prelude c.args.params.now rest c.first-item.result (seen c.args.names.now) (seen c.show_param.new.names) (seen c.loop-p.names) c.loop-p.p-index c.requires (first_and_rest c.args.params.now c.first-item.result c.in-len1-up.len_at_least c.first-item.is) (omega arith) c.in_ok-param-in-len1-up.ensures c.in_ok-show_param-in-len1-up.ensures c.loop-p.invariant.0,
      param_names_end (seen c.loop-p.names) rest c.loop-p.p-index (omega arith) c.loop-p.invariant.1,
    )
