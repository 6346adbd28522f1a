use Rattle.basis.specs.Choice.{pick}
use Rattle.std.proofs.lemmas.Result.{err_from_is_err_and}
use Rattle.std.specs.Option.{ok_or, option_copied}
use Rattle.trace.proofs.Cutting.{cut_none, cut_some}
use Rattle.trace.specs.declared.cut.Cut.TheVariants.{NoneLeft, UnknownKind}
use Rattle.trace.specs.Cut.{cut_by}
use borrow.Author.Tests.{le-leb, lt-leb}
use mathlib.Core.Path.{◌∙◌, ap, sym}
use Rattle.trace.proofs.cut.next_event.Goals as goal

pub returns-in_err-kind : goal.returns-in_err-kind
returns-in_err-kind c =
    let p = err_from_is_err_and c.from_residual.result c.from_residual.ensures.1 in
    let none = c.in_err-kind.ensures.ok_part in
    let e = c.in_err-kind.ensures.value ∙ ap (λ o. ok_or o NoneLeft) none in
    rw (p.1, p.2, cut_none c.args.bytes.now (sym c.first.ensures.value ∙ ap option_copied none)) (cc)

pub returns-in_err-size : goal.returns-in_err-size
unfolding cut_by
returns-in_err-size c =
    let p = err_from_is_err_and c.from_residual-in_err-size.result c.from_residual-in_err-size.ensures.1 in
    let none = c.in_err-size.ensures.ok_part in
    rw (
      p.1,
      p.2,
      cut_some c.args.bytes.now c.in_ok-kind.kind.now
          (sym c.first.ensures.value ∙ ap option_copied c.in_ok-kind.ensures.ok_part),
      ← c.kind_size.ensures.0,
      none,
    ) (c.in_err-size.ensures.value ∙ ap (λ o. ok_or o UnknownKind) none)

pub returns-then-size-bytes : goal.returns-then-size-bytes
unfolding cut_by pick
returns-then-size-bytes c =
    rw (
      cut_some c.args.bytes.now c.in_ok-kind.kind.now
          (sym c.first.ensures.value ∙ ap option_copied c.in_ok-kind.ensures.ok_part),
      ← c.kind_size.ensures.0,
      c.in_ok-size.ensures.ok_part,
      le-leb _ _ c.if-size-bytes.true,
    )

pub returns : goal.returns
unfolding cut_by pick
returns c =
    rw (
      cut_some c.args.bytes.now c.in_ok-kind.kind.now
          (sym c.first.ensures.value ∙ ap option_copied c.in_ok-kind.ensures.ok_part),
      ← c.kind_size.ensures.0,
      c.in_ok-size.ensures.ok_part,
      lt-leb _ _ c.if-size-bytes.false,
    )
