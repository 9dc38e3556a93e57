-- `summary::summarize` meets its contract. Assumes nothing.
use Rattle.std.proofs.Common.{length, sym, ap, ◌∙◌, arith}
use Rattle.format.specs.Refusals.{Result}
use Rattle.format.specs.Summary.{made_outcome, made_words, summary_outcome, summary_words}
use Rattle.summary.proofs.Renewing.{whole_flawed, whole_records}
use Rattle.summary.proofs.summarize.Goals as goal

pub summarize_records-requires : goal.summarize_records-requires
summarize_records-requires c = omega (arith, c.in-Some.ensures.title_short, c.in-Some.ensures.time_short, c.in-Some.ensures.inside)

pub returns-in_default : goal.returns-in_default
returns-in_default c =
    let z = whole_flawed _ c.args.sheet.now c.args.words.now c.version_of-version.ensures c.in_default.ensures in
    record { answer = rw c.at.ensures z.0; words = z.1 }

pub returns : goal.returns
unfolding summary_outcome summary_words
returns c =
    let W = whole_records _ c.args.sheet.now c.args.words.now c.version_of-version.ensures c.in-Some.ensures in
    let E = c.summarize_records.ensures in record { answer = E.answer ∙ ap (λ (x : Result). made_outcome x (length c.args.words.now)) (sym W); words = E.words ∙ ap (λ (x : Result). made_words x c.args.words.now) (sym W) }
