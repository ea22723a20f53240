use Rattle.std.proofs.Common.{ap, ⊎_elim}
use Rattle.session.specs.Maps.{is_grown}
use Rattle.console.proofs.Serving.{other_held, none_held, grown_asked, grown_listed}
use Rattle.console.proofs.rack.Rack.list.Goals as goal

pub returns-in-Empty : goal.returns-in-Empty
unfolding is_grown
returns-in-Empty c = none_held _ _ _ _ (⊎_elim (λ e. ap is_grown e) (λ e. ap is_grown e) c.in-Empty.is)

pub page-requires-clause-formed : goal.page-requires-clause-formed
page-requires-clause-formed c =
    let g = grown_asked _ _ _ _ c.args.self.now.right c.in-Grown.is (other_held _ _ c.other.ensures) c.requires.first_in_bounds in
    (g.0, c.requires.room)

pub page-requires-clause-growth : goal.page-requires-clause-growth
page-requires-clause-growth c =
    (grown_asked _ _ _ _ c.args.self.now.right c.in-Grown.is (other_held _ _ c.other.ensures) c.requires.first_in_bounds).1

pub returns-in-Grown : goal.returns-in-Grown
returns-in-Grown c = grown_listed _ _ _ _ c.args.self.now.right c.in-Grown.is (other_held _ _ c.other.ensures) c.page.ensures
