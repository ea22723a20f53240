use Prim.Native.Nat.{◌+◌, ◌*◌, ◌≤◌}
use mathlib.Core.Path.{refl, sym, ◌∙◌, ap}
use mathlib.Core.List.{[]}
use native.Mathlib.Omega.{arith}
use lib.ListN.{length, take}
use Rattle.model.specs.Table.{arrays, over}
use Rattle.model.specs.Saved.{bytes_of, saved_length}
use Rattle.model.proofs.Bytes.{bytes_of_all, bytes_length, saved_parts}
use Rattle.model.proofs.Entries.{put_none, put_more, put_over}
use Rattle.file_save.proofs.write_saved.Goals as goal

pub returns : goal.returns
unfolding saved_length bytes_of
returns c =
    let h = c.args.h in
    let old = c.args.out.now in
    let a = arrays c.args.tops.now c.args.ends.now c.args.blocks.now [] in
    let room : 12 + 4 * h.block_count + 8 * h.interval_count ≤ length old = c.requires.4 in
    let s1 = put_more (put_none 0 old) {o' = 4} (bytes_of h.buckets) c.put_number.ensures refl in
    let s2 = put_more s1 {o' = 8} (bytes_of h.block_count) c.put_number-2.ensures refl in
    let s3 = put_more s2 {o' = 12} (bytes_of h.interval_count) c.put_number-3.ensures refl in
    let s4 =
    put_more s3 {o' = 12 + 4 * h.block_count} (bytes_of_all (take h.block_count a.tops)) c.put_each.ensures
    (omega (arith, bytes_length a.tops h.block_count c.requires.0)) in
    let s5 =
    put_more s4 {o' = 12 + 4 * h.block_count + 4 * h.interval_count} (bytes_of_all (take h.interval_count a.ends))
    c.put_numbers.ensures
    (omega (arith, bytes_length a.ends h.interval_count c.requires.1)) in
    let s6 =
    put_more s5 {o' = 12 + 4 * h.block_count + 8 * h.interval_count} (bytes_of_all (take h.interval_count a.blocks))
    c.put_numbers-2.ensures
    (omega (arith, bytes_length a.blocks h.interval_count c.requires.2)) in
    put_over s6 room
    ∙ ap (λ w. over w old)
    (sym (saved_parts h a (record { tops = c.requires.0; ends = c.requires.1; blocks = c.requires.2 })))
