use Rattle.std.proofs.Common.{vec_items, ◌∙◌}
use Rattle.runfile.proofs.Whole.{recorded_count, outer_broken, records_part_broken, calls_part_broken, all_sound, handed_on}
use Rattle.runfile.proofs.reader.joined_parts.Goals as goal

pub returns-in_err-parts : goal.returns-in_err-parts
returns-in_err-parts c =
    handed_on _ _ _ _ c.from_residual.ensures.1 (outer_broken c.args.bytes.now _ c.in_err-parts.ensures)

pub returns-in_err-records : goal.returns-in_err-records
returns-in_err-records c =
    handed_on _ _ _ _ c.from_residual-in_err-records.ensures.1 (records_part_broken c.args.bytes.now _ _ _ _ c.in_ok-parts.ensures c.in_err-records.ensures)

pub returns-in_err-calls : goal.returns-in_err-calls
returns-in_err-calls c =
    let v = c.in_ok-records.records in
    let n = recorded_count c.len.result (vec_items v) (c.len.ensures ∙ v.ok.0) in
    handed_on _ _ _ _ c.from_residual-in_err-calls.ensures.1 (calls_part_broken c.args.bytes.now _ _ _ _ _ _ c.in_ok-parts.ensures c.in_ok-records.ensures n c.in_err-calls.ensures)

pub returns : goal.returns
returns c =
    let v = c.in_ok-records.records in
    let n = recorded_count c.len.result (vec_items v) (c.len.ensures ∙ v.ok.0) in
    all_sound c.args.bytes.now _ _ _ _ _ _ c.in_ok-parts.ensures c.in_ok-records.ensures n c.in_ok-calls.ensures
