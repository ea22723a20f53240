use Prim.Native.Nat.{ℕ, ◌+◌, ◌-◌, ◌≤◌}
use mathlib.Core.Path.{◌≡◌, sym, ◌∙◌, ap}
use mathlib.Core.List.{List, ◌++◌, append_assoc}
use native.Mathlib.Omega.{arith}
use lib.ListN.{length, take, drop, length-drop}
use lib.Seq.{sets, length-take-le}
use borrow.Rule.Slice.PartMut.{put_mid, Post-is}
use Rattle.std.proofs.lemmas.List.Edits.{sets-eq}
use Rattle.sheet.proofs.copy_tail.Goals as goal

-- n entries in the place of those from o on are stored there
in_place : (l new : List ℕ) (o n : ℕ) → length new ≡ n → o + n ≤ length l → put_mid o (o + n - o) l new ≡ sets l o new
in_place l new o n size room =
    ap (λ (rest : List ℕ). take o l ++ (new ++ rest)) (Post-is o (o + n) l (omega arith) ∙ ap (λ k. drop (o + k) l) (sym size))
    ∙ sym (append_assoc (take o l) new (drop (o + length new) l))
    ∙ sym (sets-eq new l o (omega (arith, size)))

pub returns : goal.returns
returns c =
    let tail = take 32 (drop c.args.from c.args.tails.now) in
    let whole : c.args.from + 32 - c.args.from ≡ 32 = omega arith in
    let copied : c.copy_from_slice.new.self ≡ tail =
    c.copy_from_slice.ensures.after ∙ ap (λ n. take n (drop c.args.from c.args.tails.now)) whole in
    ap (put_mid c.args.at (c.args.at + 32 - c.args.at) c.args.out.now) copied
    ∙ in_place c.args.out.now tail c.args.at 32
    (length-take-le 32 (drop c.args.from c.args.tails.now) (omega (arith, length-drop c.args.from c.args.tails.now)))
    c.requires.1
