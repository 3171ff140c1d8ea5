use Rattle.std.proofs.Common.{◌≡◌, ◌*◌, ◌^◌, ◌≤◌, map, take, drop, length, All}
use Rattle.definitions.specs.Stacks.{product}
use Rattle.definitions.specs.StackMessages.{message_length}
use Rattle.stack_opening.specs.Planes.{as_codes, place_values}
use Rattle.stack_opening.proofs.Walk.{Left}
use Rattle.stack_opening.proofs.Stack.open.Given as goal

abbrev pub invariant-loop-j : goal.invariant-loop-j
invariant-loop-j l =
    let planes = take l.j l.all in
    let codes = as_codes planes in record {
      room : length l.all ≡ 6;
      each : All (λ p. p.code.n ≡ l.n) planes;
      levels : l.q ≡ product codes;
      low : 1 ≤ l.q;
      small : l.q ≤ 64 ^ l.j;
      message : l.symbols ≡ message_length codes;
      few : l.symbols ≤ 64 * l.j;
      values : map (λ p. p.w) planes ≡ place_values 1 codes;
      left : Left (drop 2 l.body) l.n l.m codes l.rest l.j;
    }
