mod Adding
mod Standing
