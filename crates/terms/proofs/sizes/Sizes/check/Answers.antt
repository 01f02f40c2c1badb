use Rattle.std.proofs.Common.{rules, ◌≡◌, not, ◌∙◌}
use Rattle.std.proofs.lemmas.Iterator.{YieldsList-from_slice}
use Rattle.std.proofs.lemmas.Iterator.Adapters.{position_from-zero}
use Rattle.std.proofs.lemmas.Iterator.Search.{position_from_yields_List}
use Rattle.terms.specs.Sizes.{check_sizes, ranges_kept}
use Rattle.terms.proofs.Laws.Sizes.{position_is_first_fault, sizes_refused}
use Rattle.terms.proofs.sizes.Sizes.check.Goals as goal
use Rattle.terms.proofs.sizes.Sizes.check.Goals.{After-position}

-- the first place at which a size is not in its range
found : (c : After-position) → c.position.result ≡ check_sizes c.args.self
found c =
    position_from_yields_List not _ _ c.position.result c.position.ensures.ran (YieldsList-from_slice (ranges_kept c.args.self) (search rules)) (λ x b q k. search rules)
    ∙ position_from-zero not (ranges_kept c.args.self)
    ∙ position_is_first_fault 0 (ranges_kept c.args.self)

pub returns-clause-value : goal.returns-clause-value
returns-clause-value c = found c

pub returns-clause-refuses : goal.returns-clause-refuses
returns-clause-refuses c = rw (found c) (sizes_refused c.args.self)
