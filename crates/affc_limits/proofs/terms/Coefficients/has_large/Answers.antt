use Rattle.std.proofs.Common.{◌≡◌, sym, ap, ◌∙◌}
use Rattle.affc_limits.specs.Terms.{any_large, any_large_by, size_of}
use Rattle.affc_limits.proofs.TermLaws.{any-by, some_name, some_term}
use Rattle.affc_limits.proofs.terms.Coefficients.has_large.Goals as goal

pub returns : goal.returns
returns c =
    let s = c.args.self.now.scale in
    let is : c.any_large.result ≡ any_large s c.args.self.now.terms = c.any_large.ensures ∙ ap (any_large_by (size_of s)) c.as_slice.ensures ∙ any-by s c.args.self.now.terms in (
      λ e. some_name s c.args.self.now.terms c.args.self.now.apart (sym is ∙ e),
      λ f. is ∙ some_term s c.args.self.now.terms f.0 c.args.self.now.apart f.1,
    )
