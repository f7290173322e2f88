use Rattle.bank.proofs.ByteLaws.{bytes_kept, bytes_refused, bytes_stored, leftover_kept, load_bytes, seen_bytes, swap_bytes}
use Rattle.bank.proofs.bytes.ByteBankBank.swap.Goals as goal
use Rattle.std.proofs.Common.{rules, arith}

pub returns-in_err-seen-clause-bytes : goal.returns-in_err-seen-clause-bytes
returns-in_err-seen-clause-bytes c = bytes_refused _ _ _ _ c.in_err-seen.field-0.0 (search rules)

pub overflow_mul-i : goal.overflow_mul-i
overflow_mul-i c = let s = seen_bytes c.args.self.now.bytes.now c.args.i c.in_ok-seen.seen (search rules) in omega arith

pub store-requires : goal.store-requires
store-requires c = let s = seen_bytes c.args.self.now.bytes.now c.args.i c.in_ok-seen.seen (search rules) in omega arith

pub returns-then-seen-old : goal.returns-then-seen-old
returns-then-seen-old c =
    let s = seen_bytes c.args.self.now.bytes.now c.args.i c.in_ok-seen.seen (search rules) in
    search (rules, load_bytes, swap_bytes, bytes_stored, leftover_kept)

pub returns-else-seen-old-clause-bytes : goal.returns-else-seen-old-clause-bytes
returns-else-seen-old-clause-bytes c =
    let s = seen_bytes c.args.self.now.bytes.now c.args.i c.in_ok-seen.seen (search rules) in
    search (rules, bytes_kept)
