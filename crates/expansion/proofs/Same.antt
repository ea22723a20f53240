-- A reply on a table is one on the same table. Assumes nothing.
use Prim.Native.Nat.{ℕ}
use mathlib.Core.Path.{◌≡◌, subst}
use mathlib.Core.List.{List}
use Rattle.model.specs.Table.{Shape, Table, Arrays}
use Rattle.model.specs.declared.reply.RelocationsReply.{RelocationsReply}
use Rattle.model.specs.declared.reply.TableReply.{TableReply}
use Rattle.expansion.specs.Replies.{GrowReply, MovesReply}

pub grow_same
    : {t u : Table} {s : Shape} {out left : Arrays} {r : TableReply} → t ≡ u → GrowReply t s out left r → GrowReply u s out left r
grow_same {t} {u} {s} {out} {left} {r} e g = subst (λ t. GrowReply t s out left r) e g

pub moves_same
    : {t u : Table} {s : Shape} {q : ℕ} {buffer left : List ℕ} {r : RelocationsReply}
    → t ≡ u → MovesReply t s q buffer left r → MovesReply u s q buffer left r
moves_same {t} {u} {s} {q} {buffer} {left} {r} e g = subst (λ t. MovesReply t s q buffer left r) e g
