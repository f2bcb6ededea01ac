use Rattle.std.proofs.Common.{codes}
use Rattle.inf_report.specs.Report.{count_line, line}
use Rattle.inf_report.proofs.LineFacts.{appended_both}
use Rattle.inf_report.proofs.lines.push_setup_lines.Goals as goal

pub returns : goal.returns
returns c =
    let start = c.args.out.now.items in
    let setup = c.args.setup.now in
    let version = line (codes "infinifs report 1") in
    let servers = count_line (codes "servers") setup.servers in
    let digest = count_line (codes "digest-bytes") setup.digest_bytes in
    let cache = count_line (codes "cache") setup.cache in
    let then_servers = appended_both start _ _ version servers c.in_ok-push_line.ensures (rw c.from.ensures at c.in_ok-push_count_line.ensures) in
    let then_digest = appended_both start _ _ _ digest then_servers (rw c.from-2.ensures at c.in_ok-push_count_line-2.ensures) in
    appended_both start _ _ _ cache then_digest (rw c.from-3.ensures at c.in_ok-push_count_line-3.ensures)
