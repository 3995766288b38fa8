-- Laws of completions, and of what a request comes to.
pub mod Laws
