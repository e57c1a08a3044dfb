use Rattle.std.proofs.Common.{List, ℕ, ◌++◌, length, subst, sym, ap, ap₂, ◌∙◌}
use Rattle.pana_history.specs.Lanes.{own_entries}
use Rattle.pana_history.specs.Row.{Drawn}
use Rattle.pana_history.specs.Rows.{head_rows}
use Rattle.pana_history.specs.inner.Story.{IsStory, last_lanes, story_rows}
use Rattle.pana_history.proofs.Own.{story}
use Rattle.pana_history.proofs.Story.{rows_are}
use Rattle.pana_history.proofs.rows.rows_of.Goals as goal

pub story_of-requires-clause-story : goal.story_of-requires-clause-story
story_of-requires-clause-story c =
    subst (λ (last : ℕ). IsStory last c.as_slice-2.result.now) (sym (ap length c.as_slice-last.ensures))
    (subst (IsStory (length c.args.journal)) (sym (c.as_slice-2.ensures.value ∙ c.in_ok-own.ensures)) (story c.args.family c.args.journal c.requires))

pub returns : goal.returns
returns c =
    let own = own_entries c.args.journal c.args.family in
    let same = c.as_slice-2.ensures.value ∙ c.in_ok-own.ensures in
    c.in_ok-append.ensures.items
    ∙ ap₂ (λ (heads rows : List Drawn). heads ++ rows)
    (c.in_ok-rows.ensures ∙ ap head_rows (c.as_slice-4.ensures.value ∙ c.in_ok-story.ensures.lanes ∙ ap last_lanes same))
    (c.in_ok-story.ensures.rows ∙ ap story_rows same)
    ∙ rows_are c.args.family c.args.journal c.requires
