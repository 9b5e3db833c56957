use Rattle.std.proofs.Common.{◌≡◌, ◌-◌, length, [], arith}
use Rattle.pl_syntax.specs.Reading.{is_name_token, name_at}
use Rattle.pl_syntax.proofs.Turns.{many_behind}
use Rattle.pl_syntax.proofs.reader.Reader.other_names.Goals as goal

pub names-init : goal.names-init
names-init c =
    let whole : length c.args.self.now.rest.now - 0 ≡ length c.args.self.now.rest.now = omega arith in
    rw (c.in_ok-push.ensures.ok, c.new-names.ensures, whole) (many_behind is_name_token name_at c.args.first (length c.args.self.now.rest.now) [] c.args.self.now.rest.now)
