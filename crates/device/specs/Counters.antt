-- A queue seen at one line, as the card keeps it: counters modulo 65,536 and the line's message in work.
use Rattle.std.specs.Prelude.{Option, None, Some, Bool, true, false, ℕ, ◌+◌, ◌%◌, length, drop}
use Rattle.registers.specs.Map.{size_of}
use Rattle.device.specs.Device.{Direction, queue_number, Taking, nobody, Message, Queue}
use Rattle.device.specs.Transfer.{Ops, payload_of}

abbrev pub is_none : Option Message → Bool
is_none None = true
is_none (Some w) = false

abbrev pub taking_in_work : Option Message → Taking
taking_in_work None = nobody
taking_in_work (Some w) = w.taking

abbrev pub done_in : Option Message → ℕ
done_in None = 0
done_in (Some w) = w.done

abbrev pub further : ℕ → Option Message → Option Message
further n None = None
further n (Some w) = Some (record { taking = w.taking; done = w.done + n })

abbrev pub counters_of : Direction → Ops Queue
counters_of d =
    record {
      used_place = λ q. q.completed % size_of (queue_number d);
      used_index = λ q. (q.completed + 1) % 65536;
      idle = λ q. is_none q.work;
      work = λ q. taking_in_work q.work;
      done = λ q. done_in q.work;
      left = λ q. drop (done_in q.work) (payload_of d (taking_in_work q.work));
      hand = λ bytes xs q. record { taken = q.taken; completed = q.completed; work = further (length xs) q.work };
      complete = λ e latency q. record { taken = q.taken; completed = (q.completed + 1) % 65536; work = None };
    }
