use Rattle.std.proofs.Common.{◌∙◌, ◌≤◌, ap, ap₂, arith, length, sym}
use Rattle.std.specs.Prelude.{min}
use Rattle.rast_types.specs.declared.ty.Ty.{out-Ty}
use Rattle.rast_types.specs.declared.ty.Ty.TheVariants as ty
use Rattle.rast_eqfind.specs.Read.{and_then, choices_read, differs, each_read, heads_read, readers, readers_each, reading}
use Rattle.rast_eqfind.proofs.Reading.{choices_alike, choices_differ, heads_lolli, heads_plus, heads_tensor, heads_with, if_reads, if_then, reads_at, reads_differs, reads_is, still_all, still_differs}
use Rattle.rast_eqfind.proofs.read.+read.Goals as goal

pub read_choices-returns-then-not-are_in_order : goal.read_choices-returns-then-not-are_in_order
read_choices-returns-then-not-are_in_order t c =
    let ts = c.args.ts.now in
    let us = c.args.us.now in
    let n = c.args.vars in
    let old = c.args.terms.now in
    reads_is old old (choices_read (readers_each ts) us n) differs _ (choices_differ ts us n (sym c.are_in_order.ensures ∙ c.if-not-are_in_order.true)) (reads_differs old)

pub read_choices-returns-then-not-branch : goal.read_choices-returns-then-not-branch
read_choices-returns-then-not-branch t c =
    let ts = c.args.ts.now in
    let us = c.args.us.now in
    let n = c.args.vars in
    let old = c.args.terms.now in
    let now = c.read.new.terms in
    reads_is old now (choices_read (readers_each ts) us n) (each_read (readers_each ts) us n) _ (choices_alike ts us n (sym c.are_in_order.ensures ∙ c.if-not-are_in_order.false))
    (still_differs ts us n old c.loop-i.terms now c.loop-i.i c.index-ts-i.result c.index-us-i.result c.in_ok-read.field-0 (omega arith) (omega arith) c.index-ts-i.is c.index-us-i.is c.if-not-branch.true c.loop-i.invariant
    (reads_at ts us n old c.loop-i.terms now c.loop-i.i c.index-ts-i.result c.index-us-i.result c.in_ok-read.field-0 c.index-ts-i.is c.index-us-i.is c.in_ok-read.ensures))

pub read_choices-returns : goal.read_choices-returns
read_choices-returns t c =
    let ts = c.args.ts.now in
    let us = c.args.us.now in
    let n = c.args.vars in
    let old = c.args.terms.now in
    let now = c.loop-i.terms in
    let past : min (length ts) (length us) ≤ c.loop-i.i = omega arith in
    reads_is old now (choices_read (readers_each ts) us n) (each_read (readers_each ts) us n) _ (choices_alike ts us n (sym c.are_in_order.ensures ∙ c.if-not-are_in_order.false))
    (still_all ts us n old now c.loop-i.i past c.loop-i.invariant)

pub read_heads-returns-in-Plus-a : goal.read_heads-returns-in-Plus-a
read_heads-returns-in-Plus-a t c =
    let s = c.args.side.now in
    let a = c.args.a.now in
    let n = c.args.vars in
    let old = c.args.terms.now in
    let ts = c.as_slice.result.now in
    let us = c.as_slice-in-Plus-a.result.now in
    if_reads old c.read_choices.new.terms (heads_read (readers s) (out-Ty a) n) (choices_read (readers_each ts) us n) c.read_choices.result
    (heads_plus s a n ts us (c.in-Plus.is ∙ ap ty.Plus (sym c.as_slice.ensures)) (c.in-Plus-a.is ∙ ap ty.Plus (sym c.as_slice-in-Plus-a.ensures))) c.read_choices.ensures

pub read_heads-returns-in-With-a : goal.read_heads-returns-in-With-a
read_heads-returns-in-With-a t c =
    let s = c.args.side.now in
    let a = c.args.a.now in
    let n = c.args.vars in
    let old = c.args.terms.now in
    let ts = c.as_slice-in-With-a.result.now in
    let us = c.as_slice-in-With-a-2.result.now in
    if_reads old c.read_choices-in-With-a.new.terms (heads_read (readers s) (out-Ty a) n) (choices_read (readers_each ts) us n) c.read_choices-in-With-a.result
    (heads_with s a n ts us (c.in-With.is ∙ ap ty.With (sym c.as_slice-in-With-a.ensures)) (c.in-With-a.is ∙ ap ty.With (sym c.as_slice-in-With-a-2.ensures))) c.read_choices-in-With-a.ensures

pub read_heads-returns-else-not-branch : goal.read_heads-returns-else-not-branch
read_heads-returns-else-not-branch t c =
    let s = c.args.side.now in
    let a = c.args.a.now in
    let n = c.args.vars in
    let old = c.args.terms.now in
    let b = c.get.result.now in
    let d = c.get-in-Tensor-a.result.now in
    let b' = c.get-in-Tensor-a-2.result.now in
    let d' = c.get-in-Tensor-a-3.result.now in
    let new = c.read-in-Tensor-a.new.terms in
    if_reads old new (heads_read (readers s) (out-Ty a) n) (and_then (reading b d n) (reading b' d' n)) c.read-in-Tensor-a.result
    (heads_tensor s a n b b' d d' (c.in-Tensor.is ∙ ap₂ ty.Tensor (sym c.get.ensures) (sym c.get-in-Tensor-a-2.ensures)) (c.in-Tensor-a.is ∙ ap₂ ty.Tensor (sym c.get-in-Tensor-a.ensures) (sym c.get-in-Tensor-a-3.ensures)))
    (if_then old c.read.new.terms new (reading b d n) (reading b' d' n) c.in_ok-read-in-Tensor-a.field-0 c.read-in-Tensor-a.result c.if-not-branch.false c.in_ok-read-in-Tensor-a.ensures c.read-in-Tensor-a.ensures)

pub read_heads-returns-else-not-branch-2 : goal.read_heads-returns-else-not-branch-2
read_heads-returns-else-not-branch-2 t c =
    let s = c.args.side.now in
    let a = c.args.a.now in
    let n = c.args.vars in
    let old = c.args.terms.now in
    let b = c.get-in-Lolli-a.result.now in
    let d = c.get-in-Lolli-a-2.result.now in
    let b' = c.get-in-Lolli-a-3.result.now in
    let d' = c.get-in-Lolli-a-4.result.now in
    let new = c.read-in-Lolli-a-2.new.terms in
    if_reads old new (heads_read (readers s) (out-Ty a) n) (and_then (reading b d n) (reading b' d' n)) c.read-in-Lolli-a-2.result
    (heads_lolli s a n b b' d d' (c.in-Lolli.is ∙ ap₂ ty.Lolli (sym c.get-in-Lolli-a.ensures) (sym c.get-in-Lolli-a-3.ensures)) (c.in-Lolli-a.is ∙ ap₂ ty.Lolli (sym c.get-in-Lolli-a-2.ensures) (sym c.get-in-Lolli-a-4.ensures)))
    (if_then old c.read-in-Lolli-a.new.terms new (reading b d n) (reading b' d' n) c.in_ok-read-in-Lolli-a.field-0 c.read-in-Lolli-a-2.result c.if-not-branch-2.false c.in_ok-read-in-Lolli-a.ensures c.read-in-Lolli-a-2.ensures)
