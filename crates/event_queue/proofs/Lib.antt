-- Laws of completions on the event queue.
pub mod Laws
